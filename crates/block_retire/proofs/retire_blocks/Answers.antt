use Rattle.std.proofs.Common.{◌^◌, ◌<◌, arith}
use Rattle.block_retire.proofs.BlockLaws.{marking_begins, block-lt, block-named, marking-less, marking-turn, marking-ends}
use Rattle.block_retire.proofs.retire_blocks.Goals as goal

pub loop-left-init : goal.loop-left-init
loop-left-init c =
    let fits : c.args.w.retired_blocks < 2 ^ 64 = omega arith in
    marking_begins _ _ _ (omega arith) fits

pub block_words-requires : goal.block_words-requires
block_words-requires c = block-named _ _ _ _ _ _ _ c.loop-left.invariant c.loop-left-test.true _ c.lowest-block.ensures c.requires

pub retire_block-change-requires : goal.retire_block-change-requires
retire_block-change-requires c = (block-named _ _ _ _ _ _ _ c.loop-left.invariant c.loop-left-test.true _ c.lowest-block.ensures c.requires).0

pub put_block_words-requires : goal.put_block_words-requires
put_block_words-requires c = block-named _ _ _ _ _ _ _ c.loop-left.invariant c.loop-left-test.true _ c.lowest-block.ensures c.requires

pub clear-left-requires : goal.clear-left-requires
clear-left-requires c = block-lt _ _ _ _ _ _ _ c.loop-left.invariant c.loop-left-test.true _ c.lowest-block.ensures

pub loop-left-smaller : goal.loop-left-smaller
loop-left-smaller c = marking-less _ _ _ _ _ _ _ c.loop-left.invariant c.loop-left-test.true _ c.lowest-block.ensures _ c.clear-left.ensures

pub loop-left-preserved : goal.loop-left-preserved
loop-left-preserved c =
    marking-turn _ _ _ _ _ _ _ c.loop-left.invariant c.loop-left-test.true _ c.lowest-block.ensures _ _ _ _
    c.block_words.ensures c.retire_block-change.ensures c.put_block_words.ensures c.clear-left.ensures

pub returns : goal.returns
returns c =
    let fits : c.args.w.retired_blocks < 2 ^ 64 = omega arith in
    marking-ends _ _ _ _ _ _ fits c.loop-left.invariant c.loop-left-test.false
