use Rattle.std.proofs.Common.{sym, ap, ◌∙◌}
use native.Mathlib.Nat.{le_refl}
use Rattle.model.specs.Calls.{found}
use Rattle.page_base.proofs.PartLaws.{cell_in}
use Rattle.page_base.proofs.ReadLaws.{with_read, without-read}
use Rattle.page_base.proofs.find.get.Goals as goal

pub returns-in_err-c : goal.returns-in_err-c
returns-in_err-c c = rw c.from_residual.ensures (record { answer = λ ok. without-read _ _ _ (c.in_err-c.ensures.cell _ ok) (le_refl 64) })

pub returns : goal.returns
returns c =
    let l = c.in_ok-c.ensures.bounded in
    record { answer = λ ok. ap found (sym (cell_in _ _ l)) ∙ with_read _ _ _ (c.in_ok-c.ensures.cell _ ok) l }
