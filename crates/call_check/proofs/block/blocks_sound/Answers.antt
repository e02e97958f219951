use borrow.Author.Count.{below_more}
use Rattle.call_check.proofs.block.blocks_sound.Goals as goal

pub loop-block-preserved : goal.loop-block-preserved
loop-block-preserved c = λ ss vs. below_more _ _ (c.loop-block.invariant ss vs) ((c.block_sound.ensures.is ss vs).holds c.if-not-block_sound.false)
