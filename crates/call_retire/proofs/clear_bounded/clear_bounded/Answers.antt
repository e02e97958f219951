-- Refused as admits says, or else what clear_some does. Assumes nothing.
use Rattle.std.proofs.Common.{◌≤◌, leb, length, refl}
use Rattle.window.specs.Memory.{memory}
use Rattle.window.specs.Lent.{ListsFit}
use Rattle.model.specs.Calls.{clear_bounded}
use Rattle.call_base.specs.Answers.{state_of}
use Rattle.call_base.proofs.MeetsLaws.{refusal-meets, admitted-fits, admitted-places, admitted-arguments, filled-meets}
use Rattle.model.specs.Steps.{known_by}
use Rattle.call_base.proofs.RangeLaws.{number-taken}
use Rattle.call_retire.proofs.DoesLaws.{clear-bounded-does}
use Rattle.call_retire.proofs.AcknowledgeLaws.{bounded-acts}
use Rattle.call_retire.proofs.clear_bounded.clear_bounded.Goals as goal
use Rattle.call_retire.proofs.clear_bounded.clear_bounded.Goals.{In-Ok}

pub returns-in-Err : goal.returns-in-Err
returns-in-Err c =
    let s = c.args in
    refusal-meets (clear_bounded s.number (leb 384 (length s.returned.now))) (state_of s.w (memory s.sequences.now s.values.now s.pages.now s.blocks.now)) (length s.returned.now) refl
    s.returned.now _ _ c.in-Err.ensures c.refuse.ensures

-- past the refusals
fit : (c : In-Ok) → let s = c.args in ListsFit s.w s.sequences.now s.values.now s.pages.now s.blocks.now
fit c =
    let s = c.args in
    admitted-fits (clear_bounded s.number (leb 384 (length s.returned.now))) (state_of s.w (memory s.sequences.now s.values.now s.pages.now s.blocks.now)) (length s.returned.now) refl
    c.in-Ok.ensures

long : (c : In-Ok) → 384 ≤ length c.args.returned.now
long c =
    let s = c.args in
    admitted-places (clear_bounded s.number (leb 384 (length s.returned.now))) (state_of s.w (memory s.sequences.now s.values.now s.pages.now s.blocks.now)) (length s.returned.now) refl
    c.in-Ok.ensures

few : (c : In-Ok) → c.args.number ≤ 256
few c =
    let s = c.args in
    number-taken (known_by s.w) s.number
    (admitted-arguments (clear_bounded s.number (leb 384 (length s.returned.now))) (state_of s.w (memory s.sequences.now s.values.now s.pages.now s.blocks.now)) (length s.returned.now) refl
    c.in-Ok.ensures)

pub clear_some-step-requires : goal.clear_some-step-requires
clear_some-step-requires c = let at = (goal.at.clear_some-step-requires c).In-Ok in (fit at, long at, few at)

pub returns-in-Ok : goal.returns-in-Ok
returns-in-Ok c =
    let s = c.args in
    let t = c.clear_some-step in
    filled-meets (clear_bounded s.number (leb 384 (length s.returned.now))) (state_of s.w (memory s.sequences.now s.values.now s.pages.now s.blocks.now)) (length s.returned.now) refl
    c.in-Ok.ensures s.returned.now _ _ refl refl
    _ (clear-bounded-does s.w (memory s.sequences.now s.values.now s.pages.now s.blocks.now) s.number (leb 384 (length s.returned.now))) t.ensures
    (λ a z. bounded-acts s.number (leb 384 (length s.returned.now)) (state_of s.w (memory s.sequences.now s.values.now s.pages.now s.blocks.now)) s.returned.now t.result _ _ c.cleared.result c.cleared.ensures
    a z t.ensures.taken)
