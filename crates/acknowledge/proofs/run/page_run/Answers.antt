-- One law for each way out. Assumes nothing.
use Rattle.std.proofs.Common.{arith, sym, ◌∙◌}
use Rattle.acknowledge.proofs.RunLaws.{run_none, run-dense, run-sparse}
use Rattle.acknowledge.proofs.run.page_run.Goals as goal

pub returns-then-not-bit : goal.returns-then-not-bit
returns-then-not-bit c = run_none _ _ _ _ _ (omega arith) (sym c.bit.ensures ∙ c.if-not-bit.true)

pub returns-then-w-eq-DENSE : goal.returns-then-w-eq-DENSE
returns-then-w-eq-DENSE c = run-dense _ _ _ _ _ (omega arith) _ c.if-w-eq-DENSE.true c.dense_run.ensures

pub returns : goal.returns
returns c = run-sparse _ _ _ _ _ (omega arith) _ _ c.if-w-eq-DENSE.false (omega arith) (omega arith) c.row_mask.ensures c.lowest.ensures
