-- The words passed leave the rest to read at the place that at and phase say (ListLaws). Assumes nothing.
use Rattle.std.proofs.Common.{◌≤◌}
use Rattle.laws_losses.specs.Reading.{place}
use Rattle.laws_losses.specs.Loops.{Read}
use Rattle.loss_list.specs.Promises.{phase_of}
use Rattle.loss_list.proofs.read.is_loss_list.Given as goal

abbrev pub invariant-loop-word : goal.invariant-loop-word
invariant-loop-word l = record {
  within : l.at ≤ l.count;
  left : Read l.first l.count l.words (place l.at (phase_of l.phase)) l.word-index;
}
