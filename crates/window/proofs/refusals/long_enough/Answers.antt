-- The tests come in the definition's order; each end is a law of Lengths. Assumes nothing.
use native.Mathlib.Omega.{arith}
use Rattle.window.proofs.MemoryLaws.{page-count-le, block-count-le}
use Rattle.window.proofs.LengthLaws.{sequences-short, values-short, pages-short, blocks-decide}
use Rattle.window.proofs.refusals.long_enough.Goals as goal

pub returns-then-sequences-cells : goal.returns-then-sequences-cells
returns-then-sequences-cells c = sequences-short _ _ _ _ _ _ c.capacity-cells.ensures c.if-sequences-cells.true

pub returns-then-values-cells : goal.returns-then-values-cells
returns-then-values-cells c = values-short _ _ _ _ _ _ c.capacity-cells.ensures c.if-sequences-cells.false c.if-values-cells.true

pub overflow_mul-page_count : goal.overflow_mul-page_count
overflow_mul-page_count c = omega (arith, c.page_count.ensures, page-count-le c.args.window_size)

pub returns-then-pages-page_count : goal.returns-then-pages-page_count
returns-then-pages-page_count c =
    pages-short _ _ _ _ _ _ c.capacity-cells.ensures _ c.page_count.ensures c.if-sequences-cells.false c.if-values-cells.false c.if-pages-page_count.true

pub overflow_mul-result : goal.overflow_mul-result
overflow_mul-result c = omega (arith, c.block_count.ensures, block-count-le c.args.window_size)

pub returns : goal.returns
returns c =
    blocks-decide _ _ _ _ _ _ c.capacity-cells.ensures _ _ c.page_count.ensures c.block_count.ensures
    c.if-sequences-cells.false c.if-values-cells.false c.if-pages-page_count.false
