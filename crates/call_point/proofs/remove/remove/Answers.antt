-- The call is refused as `admits` says, or else does what `remove_value` promises, and then keeps the point. Assumes nothing.
use mathlib.Core.Path.{refl}
use mathlib.Core.List.{[]}
use Rattle.window.specs.Memory.{memory}
use Rattle.model.specs.Calls.{remove}
use Rattle.call_base.specs.Answers.{state_of}
use Rattle.call_base.proofs.MeetsLaws.{refusal-meets, admitted-fits, window-asked, admitted-meets}
use Rattle.call_point.proofs.AcknowledgeLaws.{remove-acts}
use Rattle.call_point.proofs.remove.remove.Goals as goal

pub returns-in-Err : goal.returns-in-Err
returns-in-Err c =
    let a = c.args in
    let u = state_of a.w (memory a.sequences.now a.values.now a.pages.now a.blocks.now) in
    refusal-meets (remove a.sequence) u 384 refl [] _ _ c.in-Err.ensures c.refuse.ensures

pub remove_value-step-requires : goal.remove_value-step-requires
remove_value-step-requires c =
    let a = c.args in
    let u = state_of a.w (memory a.sequences.now a.values.now a.pages.now a.blocks.now) in
    admitted-fits (remove a.sequence) u 384 refl c.in-Ok.ensures

pub returns-in-Ok : goal.returns-in-Ok
returns-in-Ok c =
    let a = c.args in
    let u = state_of a.w (memory a.sequences.now a.values.now a.pages.now a.blocks.now) in
    admitted-meets (remove a.sequence) u 384 refl c.in-Ok.ensures [] _ refl
    (remove-acts a.sequence u c.remove_value-step.result _ c.remove_value-step.ensures (window-asked (remove a.sequence) u 384 refl c.in-Ok.ensures)
    c.keep_point.result c.keep_point.ensures)
