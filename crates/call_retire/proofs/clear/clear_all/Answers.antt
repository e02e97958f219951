-- Everything retired, then a visit (clear-fills). Assumes nothing.
use Rattle.std.proofs.Common.{sym, subst, arith}
use Rattle.window.specs.declared.answers.Step.{Step}
use Rattle.window.specs.Memory.{memory}
use Rattle.model.specs.Steps.{clear_step}
use Rattle.call_base.specs.Answers.{state_of, left_of}
use Rattle.call_base.specs.Promises.{Fills}
use Rattle.call_retire.proofs.ClearLaws.{fits_after, clear-fills}
use Rattle.call_retire.proofs.clear.clear_all.Goals as goal

pub release_retired-visited-requires : goal.release_retired-visited-requires
release_retired-visited-requires c =
    let s = c.args in
    let t = c.retire_all-retired in
    let f = fits_after s.w s.sequences.now s.values.now s.pages.now s.blocks.now t.result _ t.ensures c.requires.0 in
    record {
      window_size_bound = (f.within.size_high, omega (arith, f.within.n_high), omega arith, omega (arith, c.requires.1));
      window_size_in_bounds = (f.long.sequences_long, f.long.values_long, f.long.pages_long, f.long.blocks_long);
    }

pub returns : goal.returns
returns c =
    let s = c.args in
    let t = c.release_retired-visited in
    let r = t.result in
    subst (λ (y : Step). Fills clear_step (state_of s.w (memory s.sequences.now s.values.now s.pages.now s.blocks.now)) s.returned.now
    (left_of y (memory s.sequences.now s.values.now t.new.pages t.new.blocks) t.new.returned)) (sym c.finish.ensures)
    (clear-fills s.w s.sequences.now s.values.now s.pages.now s.blocks.now c.retire_all-retired.result _ c.retire_all-retired.ensures s.returned.now r _ _ _ t.ensures)
