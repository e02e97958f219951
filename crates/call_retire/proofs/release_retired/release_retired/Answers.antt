-- Refused as admits says, or else nothing where nothing is held (none-fills), or what a visit released and its units
-- (release-fills). Assumes nothing.
use Rattle.std.proofs.Common.{◌≤◌, leb, length, sym, refl, subst, arith}
use Rattle.window.specs.declared.answers.Step.{Step}
use Rattle.window.specs.Memory.{memory}
use Rattle.window.specs.Lent.{ListsFit}
use Rattle.model.specs.Calls.{release_retired}
use Rattle.model.specs.Window.{Window}
use Rattle.model.specs.Steps.{known_by, release_step}
use Rattle.call_base.specs.Answers.{state_of, left_of}
use Rattle.call_base.specs.Promises.{Fills}
use Rattle.call_base.proofs.MeetsLaws.{refusal-meets, admitted-fits, admitted-places, admitted-arguments, filled-meets}
use Rattle.call_base.proofs.RangeLaws.{number-taken}
use Rattle.call_retire.proofs.DoesLaws.{release-does}
use Rattle.call_retire.proofs.AcknowledgeLaws.{release-acts}
use Rattle.call_retire.proofs.ReleaseLaws.{none-fills, release-fills}
use Rattle.call_retire.proofs.release_retired.release_retired.Goals as goal
use Rattle.call_retire.proofs.release_retired.release_retired.Goals.{In-Ok}

pub returns-in-Err : goal.returns-in-Err
returns-in-Err c =
    let s = c.args in
    refusal-meets (release_retired s.budget (leb 384 (length s.returned.now))) (state_of s.w (memory s.sequences.now s.values.now s.pages.now s.blocks.now)) (length s.returned.now) refl
    s.returned.now _ _ c.in-Err.ensures c.refuse.ensures

-- past the refusals
fit : (c : In-Ok) → let s = c.args in ListsFit s.w s.sequences.now s.values.now s.pages.now s.blocks.now
fit c =
    let s = c.args in
    admitted-fits (release_retired s.budget (leb 384 (length s.returned.now))) (state_of s.w (memory s.sequences.now s.values.now s.pages.now s.blocks.now)) (length s.returned.now) refl
    c.in-Ok.ensures

long : (c : In-Ok) → 384 ≤ length c.args.returned.now
long c =
    let s = c.args in
    admitted-places (release_retired s.budget (leb 384 (length s.returned.now))) (state_of s.w (memory s.sequences.now s.values.now s.pages.now s.blocks.now)) (length s.returned.now) refl
    c.in-Ok.ensures

few : (c : In-Ok) → c.args.budget ≤ 256
few c =
    let s = c.args in
    number-taken (known_by s.w) s.budget
    (admitted-arguments (release_retired s.budget (leb 384 (length s.returned.now))) (state_of s.w (memory s.sequences.now s.values.now s.pages.now s.blocks.now)) (length s.returned.now) refl
    c.in-Ok.ensures)

-- nothing is held
pub returns-then-w-eq0-2 : goal.returns-then-w-eq0-2
returns-then-w-eq0-2 c =
    let s = c.args in
    filled-meets (release_retired s.budget (leb 384 (length s.returned.now))) (state_of s.w (memory s.sequences.now s.values.now s.pages.now s.blocks.now)) (length s.returned.now) refl
    c.in-Ok.ensures s.returned.now _ _ refl refl
    _ (release-does s.w (memory s.sequences.now s.values.now s.pages.now s.blocks.now) s.budget (leb 384 (length s.returned.now)))
    (subst (λ (y : Step). Fills (λ (w : Window). release_step w s.budget) (state_of s.w (memory s.sequences.now s.values.now s.pages.now s.blocks.now)) s.returned.now
    (left_of y (memory s.sequences.now s.values.now s.pages.now s.blocks.now) s.returned.now)) (sym c.reply.ensures)
    (none-fills s.w (memory s.sequences.now s.values.now s.pages.now s.blocks.now) s.returned.now s.budget c.if-w-eq0.true))
    (release-acts s.budget (leb 384 (length s.returned.now)) (state_of s.w (memory s.sequences.now s.values.now s.pages.now s.blocks.now)) s.returned.now _)

-- a visit
pub release_retired-visited-requires : goal.release_retired-visited-requires
release_retired-visited-requires c =
    let at = (goal.at.release_retired-visited-requires c).In-Ok in
    let f = fit at in
    record {
      window_size_bound = (f.within.size_high, omega (arith, f.within.n_high), omega (arith, few at), omega (arith, long at, few at));
      window_size_in_bounds = (f.long.sequences_long, f.long.values_long, f.long.pages_long, f.long.blocks_long);
    }

pub returns-else-w-eq0 : goal.returns-else-w-eq0
returns-else-w-eq0 c =
    let s = c.args in
    let t = c.release_retired-visited in
    let at = (goal.at.returns-else-w-eq0 c).In-Ok in
    filled-meets (release_retired s.budget (leb 384 (length s.returned.now))) (state_of s.w (memory s.sequences.now s.values.now s.pages.now s.blocks.now)) (length s.returned.now) refl
    c.in-Ok.ensures s.returned.now _ _ refl refl
    _ (release-does s.w (memory s.sequences.now s.values.now s.pages.now s.blocks.now) s.budget (leb 384 (length s.returned.now)))
    (subst (λ (y : Step). Fills (λ (w : Window). release_step w s.budget) (state_of s.w (memory s.sequences.now s.values.now s.pages.now s.blocks.now)) s.returned.now
    (left_of y (memory s.sequences.now s.values.now t.new.pages t.new.blocks) t.new.returned)) (sym c.finish.ensures)
    (release-fills s.w s.sequences.now s.values.now s.pages.now s.blocks.now s.returned.now s.budget t.result _ _ _ (long at) (few at) t.ensures))
    (release-acts s.budget (leb 384 (length s.returned.now)) (state_of s.w (memory s.sequences.now s.values.now s.pages.now s.blocks.now)) s.returned.now _)
