use Rattle.block_retire.proofs.RunLoopLaws.{several-blocks}
use Rattle.block_retire.proofs.run.retire_several.Goals as goal

pub returns : goal.returns
returns c = several-blocks _ _ _ _ _ c.requires.0 _ _ _ _ _ _ c.retire_first-begun.ensures c.retire_last-ended.ensures c.retire_between.ensures
