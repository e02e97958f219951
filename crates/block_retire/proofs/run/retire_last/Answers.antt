use Rattle.std.proofs.Common.{◌/◌, ◌%◌, arith}
use Rattle.block_retire.proofs.RunLoopLaws.{span-named, last-part}
use Rattle.block_retire.proofs.run.retire_last.Goals as goal

pub retire_pages_in_block-requires : goal.retire_pages_in_block-requires
retire_pages_in_block-requires c = (omega (arith, c.requires.0, c.if-to-eq0.false), omega (arith, c.requires.2, c.if-to-eq0.false), rw c.span.ensures (span-named c.args.pages.now (c.args.to / 64) 0 (c.args.to % 64) (omega arith) (omega (arith, c.requires.1))))

pub returns : goal.returns
returns c = last-part _ _ _ _ _ _ _ c.if-to-eq0.false c.span.ensures c.retire_pages_in_block.ensures
