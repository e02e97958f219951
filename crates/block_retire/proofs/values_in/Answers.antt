use Rattle.std.proofs.Common.{◌<◌, arith}
use Rattle.words.proofs.CountLaws.{count-le}
use Rattle.block_retire.proofs.CountLaws.{counting-turn, counting-few, counting-less, counting-ends, page-in, bit-lt}
use Rattle.block_retire.proofs.values_in.Goals as goal
use Rattle.block_retire.proofs.values_in.Goals.{After-lowest-bit}

bit-below : (c : After-lowest-bit) → c.lowest-bit.result < 64
bit-below c = bit-lt _ _ _ _ _ c.loop-left.invariant c.loop-left-test.true _ c.lowest-bit.ensures

pub overflow_add-page : goal.overflow_add-page
overflow_add-page c = omega (arith, bit-below (goal.at.overflow_add-page c).After-lowest-bit, c.requires.0)

pub page_words-words-requires : goal.page_words-words-requires
page_words-words-requires c =
    (omega (arith, bit-below (goal.at.page_words-words-requires c).After-lowest-bit, c.requires.0), page-in _ _ _ _ _ c.loop-left.invariant c.loop-left-test.true _ c.lowest-bit.ensures)

pub overflow_add-values : goal.overflow_add-values
overflow_add-values c = omega (arith, c.count-values.ensures, count-le 64 c.page_words-words.result.occupied, counting-few _ _ _ _ _ c.loop-left.invariant)

pub clear-left-requires : goal.clear-left-requires
clear-left-requires c = bit-below (goal.at.clear-left-requires c).After-lowest-bit

pub loop-left-smaller : goal.loop-left-smaller
loop-left-smaller c = counting-less _ _ _ _ _ c.loop-left.invariant c.loop-left-test.true _ c.lowest-bit.ensures _ c.clear-left.ensures

pub loop-left-preserved : goal.loop-left-preserved
loop-left-preserved c = counting-turn _ _ _ _ _ c.loop-left.invariant c.loop-left-test.true _ c.lowest-bit.ensures _ _ _ c.page_words-words.ensures c.count-values.ensures c.clear-left.ensures

pub returns : goal.returns
returns c = counting-ends _ _ _ _ _ c.loop-left.invariant c.loop-left-test.false
