-- A stretch that is lost lengthens the run; one that is not ends it, and its words are counted. Assumes nothing.
use Rattle.std.proofs.Common.{◌-◌, ◌≤◌}
use Rattle.laws_losses.specs.Loops.{Counted}
use Rattle.loss_stretch.specs.Promises.{seen_lost, KnowsRow}
use Rattle.call_losses.proofs.count_words.Given as goal

abbrev pub invariant-loop-d : goal.invariant-loop-d
invariant-loop-d l = record {
  within : l.d ≤ l.count;
  counted : Counted (seen_lost l.w l.sequences l.pages l.blocks l.first) l.first l.count l.run l.d l.total;
  knows : KnowsRow l.w l.sequences l.pages l.blocks l.first l.d l.mask;
}

abbrev pub decreases-loop-d : goal.decreases-loop-d
decreases-loop-d l = l.count - l.d
