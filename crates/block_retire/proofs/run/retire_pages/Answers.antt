use Rattle.std.proofs.Common.{◌+◌, ◌-◌, ◌/◌, ◌%◌, arith}
use Rattle.block_retire.proofs.RunLoopLaws.{span-named, pages-empty, one_block}
use Rattle.block_retire.proofs.run.retire_pages.Goals as goal

pub returns-then-to-from : goal.returns-then-to-from
returns-then-to-from c = pages-empty _ _ _ _ _ c.if-to-from.true

pub retire_pages_in_block-requires : goal.retire_pages_in_block-requires
retire_pages_in_block-requires c = (omega (arith, c.requires.0, c.if-block-to.true), omega (arith, c.requires.2, c.if-block-to.true), rw c.span-mask.ensures (span-named c.args.pages.now (c.args.from / 64) (c.args.from % 64) ((c.args.to - 1) % 64 + 1) (omega arith) (omega (arith, c.requires.1, c.if-block-to.true, c.if-to-from.false))))

pub returns-then-block-to : goal.returns-then-block-to
returns-then-block-to c = one_block _ _ _ _ _ _ _ _ c.if-to-from.false c.if-block-to.true c.span-mask.ensures c.retire_pages_in_block.ensures
