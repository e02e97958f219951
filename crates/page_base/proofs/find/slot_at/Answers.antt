use Rattle.std.proofs.Common.{sym, arith}
use Rattle.std.proofs.lemmas.Option.{IfSome_then}
use Rattle.page_base.proofs.FindLaws.{dense-slot, dense-free, free-slot, sparse-found}
use Rattle.page_base.proofs.find.slot_at.Goals as goal

pub returns-then-bit : goal.returns-then-bit
returns-then-bit c = record {
  bounded = omega arith;
  cell = λ vs ok. dense-slot _ _ _ vs ok _ (omega arith) c.if-w-eq-DENSE.true (sym c.if-bit.ensures);
}

pub returns-then-w-eq-DENSE : goal.returns-then-w-eq-DENSE
returns-then-w-eq-DENSE c = record {
  bounded = tt;
  cell = λ vs ok. dense-free _ _ _ vs ok _ (omega arith) c.if-w-eq-DENSE.true (sym c.if-bit.ensures);
}

pub returns-then-not-bit : goal.returns-then-not-bit
returns-then-not-bit c = record { bounded = tt; cell = λ vs ok. free-slot _ _ _ vs ok _ (omega arith) (sym c.if-not-bit.ensures) }

pub returns : goal.returns
returns c =
    let found = c.sparse_slot_at.ensures in
    record {
      bounded = IfSome_then c.sparse_slot_at.result found.within (λ x l. omega arith);
      cell = λ vs ok. sparse-found _ _ _ vs ok _ (omega arith) c.if-w-eq-DENSE.false (omega arith) _ found.within found.first;
    }
