use Rattle.block_retire.proofs.RunLoopLaws.{between_none, between-named, between-some}
use Rattle.block_retire.proofs.run.retire_between.Goals as goal

pub returns-then-end-first : goal.returns-then-end-first
returns-then-end-first c = between_none _ _ _ _ c.if-end-first.true

pub retire_blocks-requires : goal.retire_blocks-requires
retire_blocks-requires c = between-named c.args.w c.args.blocks.now c.args.from c.args.to c.if-end-first.false _ c.span.ensures c.requires.1 c.requires.2

pub returns : goal.returns
returns c = between-some _ _ _ _ c.if-end-first.false _ c.span.ensures c.requires.1 _ _ c.retire_blocks.ensures
