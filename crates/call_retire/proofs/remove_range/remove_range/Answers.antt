-- Refused as admits says, or else what remove_positions does at the positions of the range, and then the point. Assumes nothing.
use Rattle.std.proofs.Common.{ℕ, ◌≤◌, leb, length, refl, subst, arith}
use Rattle.window.specs.Memory.{memory, position}
use Rattle.window.proofs.MemoryLaws.{size-le, position-lt}
use Rattle.window.specs.Lent.{ListsFit}
use Rattle.model.specs.Calls.{remove_range}
use Rattle.model.specs.Table.{range_count_of}
use Rattle.model.specs.Window.{Window}
use Rattle.model.specs.Steps.{known_by, range_step}
use Rattle.call_base.specs.Answers.{state_of, left_of}
use Rattle.call_base.specs.Promises.{Fills}
use Rattle.call_base.proofs.MeetsLaws.{refusal-meets, admitted-fits, admitted-places, admitted-arguments, filled-meets}
use Rattle.model.proofs.KeepLaws.{count-some}
use Rattle.call_base.proofs.RangeLaws.{count-taken}
use Rattle.call_retire.proofs.DoesLaws.{range-does}
use Rattle.call_retire.proofs.AcknowledgeLaws.{range-acts}
use Rattle.call_retire.proofs.remove_range.remove_range.Goals as goal
use Rattle.call_retire.proofs.remove_range.remove_range.Goals.{In-Ok}

pub returns-in-Err : goal.returns-in-Err
returns-in-Err c =
    let s = c.args in
    refusal-meets (remove_range s.first s.last (leb 384 (length s.returned.now))) (state_of s.w (memory s.sequences.now s.values.now s.pages.now s.blocks.now)) (length s.returned.now) refl
    s.returned.now _ _ c.in-Err.ensures c.refuse.ensures

-- past the refusals
fit : (c : In-Ok) → let s = c.args in ListsFit s.w s.sequences.now s.values.now s.pages.now s.blocks.now
fit c =
    let s = c.args in
    admitted-fits (remove_range s.first s.last (leb 384 (length s.returned.now))) (state_of s.w (memory s.sequences.now s.values.now s.pages.now s.blocks.now)) (length s.returned.now) refl
    c.in-Ok.ensures

long : (c : In-Ok) → 384 ≤ length c.args.returned.now
long c =
    let s = c.args in
    admitted-places (remove_range s.first s.last (leb 384 (length s.returned.now))) (state_of s.w (memory s.sequences.now s.values.now s.pages.now s.blocks.now)) (length s.returned.now) refl
    c.in-Ok.ensures

few : (c : In-Ok) → let s = c.args in range_count_of s.first s.last ≤ s.w.window_size
few c =
    let s = c.args in
    count-taken (known_by s.w) s.first s.last
    (admitted-arguments (remove_range s.first s.last (leb 384 (length s.returned.now))) (state_of s.w (memory s.sequences.now s.values.now s.pages.now s.blocks.now)) (length s.returned.now) refl
    c.in-Ok.ensures)

pub position-start-requires : goal.position-start-requires
position-start-requires c = (fit (goal.at.position-start-requires c).In-Ok).within.size_high

pub remove_positions-step-requires : goal.remove_positions-step-requires
remove_positions-step-requires c =
    let s = c.args in
    let at = (goal.at.remove_positions-step-requires c).In-Ok in
    let f = fit at in
    let size = s.w.window_size in
    record {
      lists_fit = f;
      start_bound = (
        omega (arith, c.position-start.ensures, position-lt size s.first),
        omega (arith, c.range_count-count.ensures, count-some s.first s.last),
        omega (arith, c.range_count-count.ensures, few at, size-le size f.within.size_high),
        long at,
      );
    }

pub keep_point-requires : goal.keep_point-requires
keep_point-requires c =
    let at = (goal.at.keep_point-requires c).In-Ok in
    let f = fit at in
    (f.within.size_high, omega (arith, c.range_count-count.ensures, few at, size-le c.args.w.window_size f.within.size_high))

pub returns-in-Ok : goal.returns-in-Ok
returns-in-Ok c =
    let s = c.args in
    let t = c.remove_positions-step in
    let count = c.range_count-count in
    let left = left_of t.result (memory t.new.sequences t.new.values t.new.pages t.new.blocks) t.new.returned in
    let fills = subst (λ (n : ℕ). Fills (λ (w : Window). range_step w (position s.w.window_size s.first) n) (state_of s.w (memory s.sequences.now s.values.now s.pages.now s.blocks.now)) s.returned.now left)
    count.ensures
    (subst (λ (p : ℕ). Fills (λ (w : Window). range_step w p count.result) (state_of s.w (memory s.sequences.now s.values.now s.pages.now s.blocks.now)) s.returned.now left)
    c.position-start.ensures t.ensures) in
    filled-meets (remove_range s.first s.last (leb 384 (length s.returned.now))) (state_of s.w (memory s.sequences.now s.values.now s.pages.now s.blocks.now)) (length s.returned.now) refl
    c.in-Ok.ensures s.returned.now left _ refl refl
    _ (range-does s.w (memory s.sequences.now s.values.now s.pages.now s.blocks.now) s.first s.last (leb 384 (length s.returned.now)))
    fills (λ a z. range-acts s.first s.last (leb 384 (length s.returned.now)) s.w (memory s.sequences.now s.values.now s.pages.now s.blocks.now) s.returned.now t.result _ _
    a z fills.taken count.result count.ensures c.keep_point.result c.keep_point.ensures)
