use Rattle.std.proofs.Common.{sym, ap, ◌∙◌, ℕ, ◌+◌, ◌*◌, arith}
use lib.Bits.{bit_and}
use Rattle.words.proofs.LowestLaws.{lowest-is}
use Rattle.words.specs.Word.{lowest}
use Rattle.block_search.proofs.SearchLoopLaws.{code_is, nowhere, ends, begins, block-below, block_in, goes_on, fewer, found_in, finds}
use Rattle.block_search.proofs.next_page.Goals as goal

pub returns-then-end-start-clause-first : goal.returns-then-end-start-clause-first
returns-then-end-start-clause-first c = nowhere _ _ _ _ _ _ c.requires.0 (λ g a m. absurd (omega (arith, c.if-end-start.true)))

pub loop-summary-init : goal.loop-summary-init
loop-summary-init c = rw c.span.ensures (begins _ _ _ _ _ _ (omega (arith, c.if-end-start.false)) c.requires.1)

pub selected_pages-requires : goal.selected_pages-requires
selected_pages-requires c =
    let b = block_in _ _ _ _ _ _ _ c.loop-summary.invariant c.loop-summary-test.true _ c.lowest-block.ensures in
    (omega (arith, b), omega (arith, b))

pub bits_within-requires : goal.bits_within-requires
bits_within-requires c =
    let b = block_in _ _ _ _ _ _ _ c.loop-summary.invariant c.loop-summary-test.true _ c.lowest-block.ensures in
    (omega (arith, c.if-end-start.false), b.0, b.1)

pub overflow_mul-result : goal.overflow_mul-result
overflow_mul-result c = omega (arith, block_in _ _ _ _ _ _ _ c.loop-summary.invariant c.loop-summary-test.true _ c.lowest-block.ensures)

pub overflow_add-result : goal.overflow_add-result
overflow_add-result c =
    omega (arith, block_in _ _ _ _ _ _ _ c.loop-summary.invariant c.loop-summary-test.true _ c.lowest-block.ensures, c.lowest.ensures, (lowest-is (bit_and c.selected_pages.result c.bits_within.result) 0 (omega arith)).top)

pub returns-then-pages-ne0-clause-first : goal.returns-then-pages-ne0-clause-first
returns-then-pages-ne0-clause-first c =
    let w = code_is _ c.args.nonempty_summary _ _ _ _ _ _ _ _ c.selected_pages.ensures c.bits_within.ensures c.lowest-block.ensures in
    (λ i. 64 * c.lowest-block.ensures i + (c.lowest.ensures ∙ ap (λ (x : ℕ). lowest x 0) w) i)
    ∙ finds _ _ _ _ _ _ _ c.loop-summary.invariant c.loop-summary-test.true (λ e. c.if-pages-ne0.true (w ∙ e))

pub returns-then-pages-ne0-clause-in_range : goal.returns-then-pages-ne0-clause-in_range
returns-then-pages-ne0-clause-in_range c =
    let w = code_is _ c.args.nonempty_summary _ _ _ _ _ _ _ _ c.selected_pages.ensures c.bits_within.ensures c.lowest-block.ensures in
    rw (c.lowest.ensures, w, c.lowest-block.ensures)
    (found_in _ _ _ _ _ _ _ c.loop-summary.invariant c.loop-summary-test.true (λ e. c.if-pages-ne0.true (w ∙ e))).1

pub clear-summary-requires : goal.clear-summary-requires
clear-summary-requires c =
    rw c.lowest-block.ensures (block-below _ _ _ _ _ _ _ c.loop-summary.invariant c.loop-summary-test.true)

pub loop-summary-smaller : goal.loop-summary-smaller
loop-summary-smaller c =
    rw (c.clear-summary.ensures, c.lowest-block.ensures) (fewer _ _ _ _ _ _ _ c.loop-summary.invariant c.loop-summary-test.true)

pub loop-summary-preserved : goal.loop-summary-preserved
loop-summary-preserved c =
    let w = code_is _ c.args.nonempty_summary _ _ _ _ _ _ _ _ c.selected_pages.ensures c.bits_within.ensures c.lowest-block.ensures in
    rw (c.clear-summary.ensures, c.lowest-block.ensures)
    (goes_on _ _ _ _ _ _ _ c.loop-summary.invariant c.loop-summary-test.true (sym w ∙ c.if-pages-ne0.false))

pub returns-clause-first : goal.returns-clause-first
returns-clause-first c = ends _ _ _ _ _ _ c.requires.0 _ c.loop-summary.invariant c.loop-summary-test.false
