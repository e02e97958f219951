use Rattle.std.proofs.Common.{◌∙◌, inl, inr}
use Rattle.std.proofs.lemmas.Result.{IfErr-weaker}
use native.Mathlib.Nat.{le_refl}
use Rattle.page_insert.proofs.CaseLaws.{page-over, page-new}
use Rattle.page_insert.proofs.insert.Goals as goal

pub returns-in-Some : goal.returns-in-Some
returns-in-Some c = record {
  refuses = IfErr-weaker c.replace.result.answer _ _ (λ why e. inl e) c.replace.ensures.refuses;
  gives = λ ok. c.replace.ensures.gives ∙ page-over _ _ _ _ _ (c.in-Some.ensures.cell _ ok) c.in-Some.ensures.bounded;
}

pub returns-in-None : goal.returns-in-None
returns-in-None c = record {
  refuses = IfErr-weaker c.insert_new.result.answer _ _ (λ why e. inr e) c.insert_new.ensures.refuses;
  gives = λ ok. c.insert_new.ensures.gives ok ∙ page-new _ _ _ _ _ (c.in-None.ensures.cell _ ok) (le_refl 64);
}
