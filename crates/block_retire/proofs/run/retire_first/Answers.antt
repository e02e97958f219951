use Rattle.block_retire.proofs.RunLoopLaws.{first_part}
use Rattle.block_retire.proofs.run.retire_first.Goals as goal

pub returns : goal.returns
returns c = first_part _ _ _ _ _ _ _ c.if-from-eq0.false c.span.ensures c.retire_pages_in_block.ensures
