-- Refused as admits says, or else what clear_all does. Assumes nothing.
use Rattle.std.proofs.Common.{◌≤◌, leb, length, refl}
use Rattle.window.specs.Memory.{memory}
use Rattle.window.specs.Lent.{ListsFit}
use Rattle.model.specs.Calls.{clear}
use Rattle.call_base.specs.Answers.{state_of}
use Rattle.call_base.proofs.MeetsLaws.{refusal-meets, admitted-fits, admitted-places, filled-meets}
use Rattle.call_retire.proofs.DoesLaws.{clear-does}
use Rattle.call_retire.proofs.AcknowledgeLaws.{clear-acts}
use Rattle.call_retire.proofs.clear.clear.Goals as goal
use Rattle.call_retire.proofs.clear.clear.Goals.{In-Ok}

pub returns-in-Err : goal.returns-in-Err
returns-in-Err c =
    let s = c.args in
    refusal-meets (clear (leb 384 (length s.returned.now))) (state_of s.w (memory s.sequences.now s.values.now s.pages.now s.blocks.now)) (length s.returned.now) refl
    s.returned.now _ _ c.in-Err.ensures c.refuse.ensures

-- past the refusals
fit : (c : In-Ok) → let s = c.args in ListsFit s.w s.sequences.now s.values.now s.pages.now s.blocks.now
fit c =
    let s = c.args in
    admitted-fits (clear (leb 384 (length s.returned.now))) (state_of s.w (memory s.sequences.now s.values.now s.pages.now s.blocks.now)) (length s.returned.now) refl
    c.in-Ok.ensures

long : (c : In-Ok) → 384 ≤ length c.args.returned.now
long c =
    let s = c.args in
    admitted-places (clear (leb 384 (length s.returned.now))) (state_of s.w (memory s.sequences.now s.values.now s.pages.now s.blocks.now)) (length s.returned.now) refl
    c.in-Ok.ensures

pub clear_all-step-requires : goal.clear_all-step-requires
clear_all-step-requires c = let at = (goal.at.clear_all-step-requires c).In-Ok in (fit at, long at)

pub returns-in-Ok : goal.returns-in-Ok
returns-in-Ok c =
    let s = c.args in
    let t = c.clear_all-step in
    filled-meets (clear (leb 384 (length s.returned.now))) (state_of s.w (memory s.sequences.now s.values.now s.pages.now s.blocks.now)) (length s.returned.now) refl
    c.in-Ok.ensures s.returned.now _ _ refl refl
    _ (clear-does s.w (memory s.sequences.now s.values.now s.pages.now s.blocks.now) (leb 384 (length s.returned.now))) t.ensures
    (λ a z. clear-acts (leb 384 (length s.returned.now)) (state_of s.w (memory s.sequences.now s.values.now s.pages.now s.blocks.now)) s.returned.now t.result _ _ c.cleared.result c.cleared.ensures a z
    t.ensures.taken)
