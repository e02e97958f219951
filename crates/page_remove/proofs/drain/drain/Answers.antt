-- On a dense page with filled = occupied, what the drain by position gives for these sequences; else the search's. Assumes nothing.
use Rattle.std.proofs.Common.{arith}
use Rattle.page_remove.proofs.DenseLaws.{dense-drains}
use Rattle.page_remove.proofs.drain.drain.Goals as goal

pub returns-then-w : goal.returns-then-w
returns-then-w c = dense-drains _ _ _ _ _ _ _ _ _ _ (omega arith) (omega arith) c.drain_dense.ensures
