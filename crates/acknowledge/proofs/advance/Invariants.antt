-- The sequences passed are live (Passed); each turn goes over the rest of a page (pass_on), and ends at the first that is not live
-- (pass-stop) or at window_size (pass-end, pass_all). Assumes nothing.
use Rattle.std.proofs.Common.{◌-◌}
use Rattle.acknowledge.proofs.StepLaws.{Passed}
use Rattle.acknowledge.proofs.advance.Given as goal

abbrev pub invariant-loop-d : goal.invariant-loop-d
invariant-loop-d l = Passed l.w l.sequences l.pages l.blocks l.base l.from l.d

abbrev pub decreases-loop-d : goal.decreases-loop-d
decreases-loop-d l = l.w.window_size - l.d
