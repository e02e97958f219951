use Rattle.block_retire.proofs.BlockLaws.{retires-block}
use Rattle.block_retire.proofs.retire_block.Goals as goal

pub returns : goal.returns
returns c = let s = c.args in retires-block s.w s.b s.block _ _ _ _ c.low-live.ensures c.set.ensures c.sub_live-fewer.ensures c.more_held.ensures
