use Rattle.std.proofs.Common.{◌≡◌, ℕ, ◌+◌, ◌-◌, ◌%◌, ◌^◌, Bool, Ok, sym, ◌∙◌, subst, ap₂, arith}
use mathlib.Core.Bool.{and-true}
use Rattle.window.specs.declared.answers.Step.{Step}
use Rattle.window.specs.declared.answers.Answer.TheVariants.{Found}
use Rattle.window.specs.Memory.{memory}
use Rattle.model.specs.Window.{Window}
use Rattle.model.specs.Steps.{range_step}
use Rattle.call_base.specs.Answers.{state_of, left_of}
use Rattle.call_base.specs.Promises.{Fills}
use Rattle.range_retire.proofs.PerformLaws.{fits_kept}
use Rattle.call_retire.specs.Finish.{finished}
use Rattle.call_retire.proofs.ReleaseLaws.{none_visited, none-visits}
use Rattle.call_retire.proofs.RemoveRangeLaws.{range-fills}
use Rattle.call_retire.proofs.remove_range.remove_positions.Goals as goal
use Rattle.call_retire.proofs.remove_range.remove_positions.Goals.{After-release_retired-visited}

pub returns-then-left-eq0 : goal.returns-then-left-eq0
returns-then-left-eq0 c =
    let s = c.args in
    let t = c.retire-retired in
    let m = t.new in
    let removed = (s.w.len + (2 ^ 32 - t.result.window.len)) % 2 ^ 32 in
    let start = c.requires.start_bound in
    let n : t.result.count + 0 ≡ t.result.count = omega arith in
    let none = none-visits t.result.window m.sequences m.values m.pages m.blocks m.returned t.result.count 256 c.if-left-eq0.true in
    subst (λ (y : Step). Fills (λ (v : Window). range_step v s.start s.count) (state_of s.w (memory s.sequences.now s.values.now s.pages.now s.blocks.now)) s.returned.now
    (left_of y (memory m.sequences m.values m.pages m.blocks) m.returned))
    (ap₂ (λ (x : ℕ) (b : Bool). finished t.result.window (Ok (Found removed)) x b) n (and-true t.result.sound) ∙ sym c.finish.ensures)
    (range-fills s.w s.sequences.now s.values.now s.pages.now s.blocks.now s.returned.now s.start s.count start.0 start.1 start.2
    t.result _ _ _ _ _ t.ensures (none_visited t.result.window) _ _ _ none removed (omega arith) (omega arith))

pub release_retired-visited-requires : goal.release_retired-visited-requires
release_retired-visited-requires c =
    let s = c.args in
    let t = c.retire-retired.ensures in
    let m = c.retire-retired.new in
    let f = fits_kept s.w c.retire-retired.result.window (memory s.sequences.now s.values.now s.pages.now s.blocks.now) (memory m.sequences m.values m.pages m.blocks) t.limits t.lengths
    c.requires.lists_fit in
    record {
      window_size_bound = (f.within.size_high, omega (arith, f.within.n_high), omega arith, omega (arith, t.few, t.wrote.long, c.requires.start_bound.3));
      window_size_in_bounds = (f.long.sequences_long, f.long.values_long, f.long.pages_long, f.long.blocks_long);
    }

pub returns : goal.returns
returns c =
    let s = c.args in
    let t = c.retire-retired in
    let u = c.release_retired-visited in
    let start = c.requires.start_bound in
    subst (λ (y : Step). Fills (λ (v : Window). range_step v s.start s.count) (state_of s.w (memory s.sequences.now s.values.now s.pages.now s.blocks.now)) s.returned.now
    (left_of y (memory t.new.sequences t.new.values u.new.pages u.new.blocks) u.new.returned)) (sym c.finish-2.ensures)
    (range-fills s.w s.sequences.now s.values.now s.pages.now s.blocks.now s.returned.now s.start s.count start.0 start.1 start.2
    t.result _ _ _ _ _ t.ensures u.result _ _ _ u.ensures _ (omega arith) (omega arith))
