use Rattle.std.proofs.Common.{rules}
use Rattle.acknowledge.proofs.RunLaws.{mask-none, mask-turn}
use Rattle.acknowledge.proofs.run.row_mask.Goals as goal

pub loop-c-init : goal.loop-c-init
loop-c-init c = mask-none _ _ _

pub loop-c-preserved : goal.loop-c-preserved
loop-c-preserved c = mask-turn _ _ _ _ _ _ c.loop-c.invariant (λ i. search rules) (λ o. search rules)
