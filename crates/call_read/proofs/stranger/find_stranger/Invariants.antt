-- No stranger stands from `start` up to `from` (Searched); each way out is one law of StrangerLaws. Assumes nothing.
use Rattle.std.proofs.Common.{◌-◌}
use Rattle.call_read.proofs.StrangerLaws.{Searched}
use Rattle.call_read.proofs.stranger.find_stranger.Given as goal

abbrev pub invariant-loop-from : goal.invariant-loop-from
invariant-loop-from l = Searched l.window.header l.window.sequences.now l.window.pages.now l.window.blocks.now l.first l.count l.start l.from

abbrev pub decreases-loop-from : goal.decreases-loop-from
decreases-loop-from l = l.end - l.from
