use Rattle.block_retire.proofs.AllLaws.{without-none, without_more}
use Rattle.block_retire.proofs.clear_live.Goals as goal

pub loop-block-init : goal.loop-block-init
loop-block-init c = without-none _

pub loop-block-preserved : goal.loop-block-preserved
loop-block-preserved c = without_more _ _ _ c.loop-block.invariant
