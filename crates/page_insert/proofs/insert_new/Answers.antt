use Rattle.std.proofs.Common.{refl, sym, ◌∙◌, arith}
use Rattle.page_insert.proofs.CaseLaws.{new-sparse, some-free, first-cells}
use Rattle.page_insert.proofs.insert_new.Goals as goal

pub returns-in_default : goal.returns-in_default
returns-in_default c = record {
  refuses = refl;
  gives = λ ok. absurd (omega (arith, c.in_default.ensures.lowest, some-free _ _ ok 64 (omega arith) (omega arith)));
}

pub returns-then-count-n : goal.returns-then-count-n
returns-then-count-n c = record {
  refuses = tt;
  gives = λ ok. new-sparse _ _ _ _ _ c.if-w-eq-DENSE.false (omega arith)
      (rw c.in-Some.ensures.lowest at c.put-words-then-count-n.ensures);
}

pub returns-then-w-span : goal.returns-then-w-span
returns-then-w-span c = record {
  refuses = refl;
  gives = λ ok. absurd (c.if-w-span.true (first-cells _ _ ok c.requires.3 c.if-w-eq-DENSE.false (omega arith) ∙ sym c.span.ensures));
}
