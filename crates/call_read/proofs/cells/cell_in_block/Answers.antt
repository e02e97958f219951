use Rattle.std.proofs.Common.{◌≡◌, ℕ, ◌+◌, ◌-◌, ◌*◌, ◌/◌, ◌^◌, ◌<◌, ◌≤◌, sym, ap, ◌∙◌, subst, arith}
use lib.Bits.{bit_and}
use Rattle.words.specs.Word.{lowest}
use Rattle.page_base.specs.declared.PageWords.{PageWords}
use Rattle.page_base.specs.Page.{words_at}
use Rattle.call_read.proofs.PageCellLaws as laws
use Rattle.call_read.proofs.cells.cell_in_block.Goals as goal
use Rattle.call_read.proofs.cells.cell_in_block.Goals.{After-lowest-bit, After-bits_within-in-loop-left}

-- the lowest page that is left is one of the range's
page-in : (c : After-lowest-bit) → let s = c.args in (s.start / 64 ≤ 64 * s.block + c.lowest-bit.result) × (64 * s.block + c.lowest-bit.result ≤ (s.end - 1) / 64)
page-in c = rw c.lowest-bit.ensures (laws.page-in _ _ _ _ _ c.requires.0 _ c.loop-left.invariant c.loop-left-test.true)

-- its cells of the range
word-is : (c : After-bits_within-in-loop-left) →
    let s = c.args in
    bit_and c.page_words-words.result.filled c.bits_within-in-loop-left.result ≡ laws.filled_in s.pages.now s.start s.end (64 * s.block + lowest c.loop-left.left 0)
word-is c =
    let s = c.args in
    laws.word-is _ _ _ _ _ _ c.page_words-words.ensures c.bits_within-in-loop-left.ensures
    ∙ ap (λ (x : ℕ). laws.filled_in s.pages.now s.start s.end (64 * s.block + x)) c.lowest-bit.ensures

fits : (c : After-bits_within-in-loop-left) → let s = c.args in (words_at s.pages.now (64 * s.block + lowest c.loop-left.left 0)).filled < 2 ^ 64
fits c =
    let e = c.page_words-words.ensures ∙ ap (λ (x : ℕ). words_at c.args.pages.now (64 * c.args.block + x)) c.lowest-bit.ensures in
    subst (λ (x : PageWords). x.filled < 2 ^ 64) e (omega arith)

pub bits_within-requires : goal.bits_within-requires
bits_within-requires c = (omega (arith, c.requires.0), omega (arith, c.requires.2), omega (arith, c.requires.3))

pub loop-left-init : goal.loop-left-init
loop-left-init c = rw c.bits_within.ensures (laws.begins _ _ _ _ _ c.requires.0 (omega arith))

pub overflow_add-page : goal.overflow_add-page
overflow_add-page c = omega (arith, c.requires.1, (page-in (goal.at.overflow_add-page c).After-lowest-bit).1)

pub page_words-words-requires : goal.page_words-words-requires
page_words-words-requires c =
    let p = page-in (goal.at.page_words-words-requires c).After-lowest-bit in
    (omega (arith, c.requires.0, c.requires.1, p.1), omega (arith, c.requires.0, c.requires.4, p.1))

pub bits_within-requires-in-loop-left : goal.bits_within-requires-in-loop-left
bits_within-requires-in-loop-left c =
    let p = page-in (goal.at.bits_within-requires-in-loop-left c).After-lowest-bit in
    (c.requires.0, p.0, p.1)

pub overflow_mul-result : goal.overflow_mul-result
overflow_mul-result c = omega (arith, c.requires.1, (page-in (goal.at.overflow_mul-result c).After-lowest-bit).1)

pub returns-then-filled-ne0-clause-within : goal.returns-then-filled-ne0-clause-within
returns-then-filled-ne0-clause-within c =
    let here = (goal.at.returns-then-filled-ne0-clause-within c).After-bits_within-in-loop-left in
    let w = word-is here in
    omega (
      arith,
      c.lowest-bit.ensures,
      c.lowest.ensures,
      ap (λ (x : ℕ). lowest x 0) w,
      laws.cell-in _ _ _ _ _ c.requires.0 _ c.loop-left.invariant c.loop-left-test.true (fits here) (λ z. c.if-filled-ne0.true (w ∙ z)),
    )

pub overflow_add-result : goal.overflow_add-result
overflow_add-result c = omega (arith, c.requires.1, returns-then-filled-ne0-clause-within c)

pub returns-then-filled-ne0-clause-first : goal.returns-then-filled-ne0-clause-first
returns-then-filled-ne0-clause-first c =
    let here = (goal.at.returns-then-filled-ne0-clause-first c).After-bits_within-in-loop-left in
    let w = word-is here in
    (λ i. 64 * (64 * c.args.block + c.lowest-bit.ensures i) + (c.lowest.ensures ∙ ap (λ (x : ℕ). lowest x 0) w) i)
    ∙ laws.finds _ _ _ _ _ c.requires.0 _ c.loop-left.invariant c.loop-left-test.true (fits here) (λ z. c.if-filled-ne0.true (w ∙ z))

pub clear-left-requires : goal.clear-left-requires
clear-left-requires c = rw c.lowest-bit.ensures (laws.page-below _ _ _ _ _ c.requires.0 _ c.loop-left.invariant c.loop-left-test.true)

pub loop-left-smaller : goal.loop-left-smaller
loop-left-smaller c =
    rw (c.clear-left.ensures, c.lowest-bit.ensures) (laws.fewer _ _ _ _ _ c.requires.0 _ c.loop-left.invariant c.loop-left-test.true)

pub loop-left-preserved : goal.loop-left-preserved
loop-left-preserved c =
    rw (c.clear-left.ensures, c.lowest-bit.ensures)
    (laws.goes_on _ _ _ _ _ c.requires.0 _ c.loop-left.invariant c.loop-left-test.true (sym (word-is (goal.at.loop-left-preserved c).After-bits_within-in-loop-left) ∙ c.if-filled-ne0.false))

pub returns-clause-first : goal.returns-clause-first
returns-clause-first c = laws.ends _ _ _ _ _ c.requires.0 _ c.loop-left.invariant c.loop-left-test.false
