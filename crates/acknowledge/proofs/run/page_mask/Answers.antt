-- With no cell in use no position has a value. Assumes nothing.
use Rattle.acknowledge.proofs.RunLaws.{mask-unused}
use Rattle.acknowledge.proofs.run.page_mask.Goals as goal

pub returns-then-w-eq0 : goal.returns-then-w-eq0
returns-then-w-eq0 c = mask-unused _ _ _ _ c.if-w-eq0.true
