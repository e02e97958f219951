-- Everything retired, then pages released (clear-bounded-fills). Assumes nothing.
use Rattle.std.proofs.Common.{sym, subst, arith}
use Rattle.window.specs.declared.answers.Step.{Step}
use Rattle.window.specs.Memory.{memory}
use Rattle.model.specs.Window.{Window}
use Rattle.model.specs.Steps.{clear_bounded_step}
use Rattle.call_base.specs.Answers.{state_of, left_of}
use Rattle.call_base.specs.Promises.{Fills}
use Rattle.call_retire.proofs.ClearLaws.{fits_after, clear-bounded-fills}
use Rattle.call_retire.proofs.clear_bounded.clear_some.Goals as goal
use Rattle.call_retire.proofs.clear_bounded.clear_some.Goals.{After-release_pages-released}

pub release_pages-released-requires : goal.release_pages-released-requires
release_pages-released-requires c =
    let s = c.args in
    let t = c.retire_all-retired in
    let f = fits_after s.w s.sequences.now s.values.now s.pages.now s.blocks.now t.result _ t.ensures c.requires.0 in
    record {
      window_size_bound = (f.within.size_high, omega (arith, f.within.n_high), omega (arith, c.requires.2), omega (arith, c.requires.1, c.requires.2));
      window_size_in_bounds = (f.long.sequences_long, f.long.values_long, f.long.pages_long, f.long.blocks_long);
    }

pub returns : goal.returns
returns c =
    let s = c.args in
    let t = c.release_pages-released in
    let r = t.result in
    subst (λ (y : Step). Fills (λ (w : Window). clear_bounded_step w s.number) (state_of s.w (memory s.sequences.now s.values.now s.pages.now s.blocks.now)) s.returned.now
    (left_of y (memory s.sequences.now s.values.now t.new.pages t.new.blocks) t.new.returned)) (sym c.finish.ensures)
    (clear-bounded-fills s.w s.sequences.now s.values.now s.pages.now s.blocks.now c.retire_all-retired.result _ c.retire_all-retired.ensures s.returned.now s.number r _ _ _ c.requires.1 c.requires.2 t.ensures)
