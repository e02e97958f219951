-- The mask has the positions of those of the cells passed that are in use and of the row. Assumes nothing.
use Rattle.acknowledge.specs.Promises.{Masks}
use Rattle.acknowledge.proofs.run.row_mask.Given as goal

abbrev pub invariant-loop-c : goal.invariant-loop-c
invariant-loop-c l = Masks l.sequences l.filled l.row l.c l.mask
