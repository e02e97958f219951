-- The call is refused as `admits` says, or else does what a remove of the base promises, and then moves the base. Assumes nothing.
use mathlib.Core.Path.{refl}
use mathlib.Core.List.{[]}
use Rattle.window.specs.Memory.{memory}
use Rattle.model.specs.Calls.{take_front}
use Rattle.call_base.specs.Answers.{state_of}
use Rattle.call_base.proofs.MeetsLaws.{refusal-meets, admitted-fits, admitted-meets}
use Rattle.acknowledge.proofs.LentLaws.{left-lent}
use Rattle.call_point.proofs.AcknowledgeLaws.{front-acts}
use Rattle.call_point.proofs.take_front.take_front.Goals as goal

pub returns-in-Err : goal.returns-in-Err
returns-in-Err c =
    let a = c.args in
    let u = state_of a.w (memory a.sequences.now a.values.now a.pages.now a.blocks.now) in
    refusal-meets take_front u 384 refl [] _ _ c.in-Err.ensures c.refuse.ensures

pub remove_value-step-requires : goal.remove_value-step-requires
remove_value-step-requires c =
    let a = c.args in
    let u = state_of a.w (memory a.sequences.now a.values.now a.pages.now a.blocks.now) in
    admitted-fits take_front u 384 refl c.in-Ok.ensures

pub move_base-requires : goal.move_base-requires
move_base-requires c =
    let a = c.args in
    let u = state_of a.w (memory a.sequences.now a.values.now a.pages.now a.blocks.now) in
    left-lent a.w u.memory _ (admitted-fits take_front u 384 refl c.in-Ok.ensures) c.remove_value-step.ensures.lengths

pub returns-in-Ok : goal.returns-in-Ok
returns-in-Ok c =
    let a = c.args in
    let u = state_of a.w (memory a.sequences.now a.values.now a.pages.now a.blocks.now) in
    admitted-meets take_front u 384 refl c.in-Ok.ensures [] _ refl
    (front-acts a.w u.memory c.remove_value-step.result _ c.move_base.result c.remove_value-step.ensures c.move_base.ensures)
