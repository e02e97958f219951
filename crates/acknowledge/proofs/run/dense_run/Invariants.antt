-- The cells passed are in use and of the row; the first that is not ends the run. Assumes nothing.
use Rattle.std.proofs.Common.{ℕ, ◌<◌, ◌≤◌}
use Rattle.acknowledge.specs.Promises.{InRow}
use Rattle.acknowledge.proofs.run.dense_run.Given as goal

abbrev pub invariant-loop-c : goal.invariant-loop-c
invariant-loop-c l = (l.slot ≤ l.end) × (l.end ≤ 64) × ((k : ℕ) → l.slot ≤ k → k < l.c → InRow l.sequences l.filled l.row k)
