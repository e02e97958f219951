-- The words passed have their bytes put, and leave the rest to read at the place that at and phase say (ListLaws). Assumes nothing.
use Rattle.std.proofs.Common.{◌≤◌}
use Rattle.laws_losses.specs.Reading.{place}
use Rattle.laws_losses.specs.Loops.{Told}
use Rattle.loss_list.specs.Promises.{phase_of}
use Rattle.loss_list.proofs.read.put_flags.Given as goal

abbrev pub invariant-loop-word : goal.invariant-loop-word
invariant-loop-word l = record {
  within : l.at ≤ l.count;
  few : l.total ≤ l.at;
  told : Told l.first l.count l.words l.initial.bytes (place l.at (phase_of l.phase)) l.word-index l.total l.bytes;
}
