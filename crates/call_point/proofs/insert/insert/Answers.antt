-- The call is refused as `admits` says, or else does what `insert_value` promises, and then keeps the point. Assumes nothing.
use mathlib.Core.Path.{refl}
use lib.Dec.{leb}
use lib.ListN.{length}
use Rattle.window.specs.Memory.{memory}
use Rattle.model.specs.Calls.{insert}
use Rattle.call_base.specs.Answers.{state_of}
use Rattle.call_base.proofs.MeetsLaws.{refusal-meets, admitted-fits, admitted-places, window-asked, admitted-meets}
use Rattle.acknowledge.proofs.LentLaws.{left-lent}
use Rattle.call_point.proofs.AcknowledgeLaws.{insert-acts}
use Rattle.call_point.proofs.insert.insert.Goals as goal

pub returns-in-Err : goal.returns-in-Err
returns-in-Err c =
    let a = c.args in
    let u = state_of a.w (memory a.sequences.now a.values.now a.pages.now a.blocks.now) in
    let listed = leb 384 (length a.returned.now) in
    refusal-meets (insert a.sequence a.value listed) u (length a.returned.now) refl a.returned.now _ _ c.in-Err.ensures c.refuse.ensures

pub insert_value-step-requires : goal.insert_value-step-requires
insert_value-step-requires c =
    let a = c.args in
    let u = state_of a.w (memory a.sequences.now a.values.now a.pages.now a.blocks.now) in
    let listed = leb 384 (length a.returned.now) in (
      admitted-fits (insert a.sequence a.value listed) u (length a.returned.now) refl c.in-Ok.ensures,
      admitted-places (insert a.sequence a.value listed) u (length a.returned.now) refl c.in-Ok.ensures,
    )

pub keep_point-requires : goal.keep_point-requires
keep_point-requires c =
    let a = c.args in
    let u = state_of a.w (memory a.sequences.now a.values.now a.pages.now a.blocks.now) in
    let listed = leb 384 (length a.returned.now) in
    left-lent a.w u.memory _ (admitted-fits (insert a.sequence a.value listed) u (length a.returned.now) refl c.in-Ok.ensures) c.insert_value-step.ensures.lengths

pub returns-in-Ok : goal.returns-in-Ok
returns-in-Ok c =
    let a = c.args in
    let u = state_of a.w (memory a.sequences.now a.values.now a.pages.now a.blocks.now) in
    let listed = leb 384 (length a.returned.now) in
    let asked = window-asked (insert a.sequence a.value listed) u (length a.returned.now) refl c.in-Ok.ensures in
    admitted-meets (insert a.sequence a.value listed) u (length a.returned.now) refl c.in-Ok.ensures a.returned.now _ refl
    (insert-acts a.sequence a.value listed a.w u.memory a.returned.now c.insert_value-step.result _ _ c.insert_value-step.ensures asked
    c.keep_point.result c.keep_point.ensures)
