use Rattle.std.proofs.Common.{◌≡◌, refl, sym, ap, ◌∙◌, ◌/◌, ◌≤◌, ◌<◌, true, length, arith, rules}
use lib.Bits.{and_le_l}
use Rattle.words.proofs.LowestLaws.{lowest-some}
use Rattle.window.specs.Memory.{page_count_of}
use Rattle.window.proofs.MemoryLaws.{capacity-pages, page-count-le}
use Rattle.page_base.specs.declared.PageWords.{PageWords}
use Rattle.page_base.proofs.PartLaws.{part_length}
use Rattle.block_search.specs.declared.Select.TheVariants.{Live}
use Rattle.block_search.specs.Search.{is_selected}
use Rattle.block_search.proofs.WalkLaws.{Passed, next-ge, next-selected, passed_to, passed-page}
use Rattle.block_search.proofs.WalkLoopLaws.{occupied_in, word-is, walk-nothing, live-page, walk-cell, walk-answer}
use Rattle.block_search.proofs.walk.find_live.Goals as goal
use Rattle.block_search.proofs.walk.find_live.Goals.{In-Some, After-page_cells-cells}

-- ---- the page that the search gives
page-lt : (c : In-Some) → c.in-Some.page < page_count_of c.args.w.window_size
page-lt c = omega (arith, c.in-Some.ensures.in_range, capacity-pages c.args.w.window_size)

page-ge : (c : In-Some) → c.loop-page.from ≤ c.in-Some.page
page-ge c = next-ge _ _ _ _ _ _ c.loop-page.invariant.1 c.loop-page.invariant.0 c.in-Some.ensures.first

selected : (c : In-Some) → let s = c.args in is_selected s.blocks.now s.w.nonempty_summary s.w.retired_blocks Live c.in-Some.page ≡ true
selected c = next-selected _ _ _ _ _ _ c.loop-page.invariant.1 c.loop-page.invariant.0 c.in-Some.ensures.first c.in-Some.ensures.in_range

up_to : (c : In-Some) →
    let s = c.args in
    Passed (is_selected s.blocks.now s.w.nonempty_summary s.w.retired_blocks Live) (occupied_in s.pages.now s.start s.end) (s.start / 64) c.in-Some.page
up_to c = passed_to _ _ _ _ _ _ c.loop-page.invariant.1 c.loop-page.invariant.0 c.in-Some.ensures.first

part-long : (c : After-page_cells-cells) → length c.page_cells-cells.result.now ≡ 64
part-long c =
    rw c.page_cells-cells.ensures
    (part_length c.in-Some.page c.args.sequences.now (omega (arith, c.in-Some.ensures.in_range, capacity-pages c.args.w.window_size)))

pub next_page-requires : goal.next_page-requires
next_page-requires c =
    let size = c.args.w.window_size in
    (c.loop-page.invariant.0, omega (arith, capacity-pages size, page-count-le size), omega (arith, capacity-pages size))

pub page_words-words-requires : goal.page_words-words-requires
page_words-words-requires c =
    let l = page-lt (goal.at.page_words-words-requires c).In-Some in
    (omega (arith, l, page-count-le c.args.w.window_size), omega (arith, l))

pub bits_within-requires : goal.bits_within-requires
bits_within-requires c =
    let l = page-ge (goal.at.bits_within-requires c).In-Some in
    (search rules, omega (arith, c.loop-page.invariant.1.begun, l), omega (arith, c.in-Some.ensures.in_range))

pub page_cells-cells-requires : goal.page_cells-cells-requires
page_cells-cells-requires c = omega (arith, c.in-Some.ensures.in_range, capacity-pages c.args.w.window_size)

pub slot_at-requires : goal.slot_at-requires
slot_at-requires c = (
  part-long (goal.at.slot_at-requires c).After-page_cells-cells,
  search rules,
  rw c.lowest.ensures (lowest-some _ (omega (arith, and_le_l c.page_words-words.result.occupied c.bits_within.result)) c.if-occupied-ne0.true),
)

pub bounds-cells-c : goal.bounds-cells-c
bounds-cells-c c = omega (arith, part-long (goal.at.bounds-cells-c c).After-page_cells-cells, c.in-Some-slot_at.ensures.bounded)

pub loop-page-smaller : goal.loop-page-smaller
loop-page-smaller c = omega (arith, page-ge (goal.at.loop-page-smaller c).In-Some, c.in-Some.ensures.in_range)

pub loop-page-preserved : goal.loop-page-preserved
loop-page-preserved c =
    let e = word-is _ _ _ _ _ _ c.page_words-words.ensures c.bits_within.ensures in
    (omega (arith, c.in-Some.ensures.in_range), passed-page _ _ _ _ (up_to (goal.at.loop-page-preserved c).In-Some) (sym e ∙ c.if-occupied-ne0.false))

pub returns-in_default : goal.returns-in_default
returns-in_default c =
    let s = c.args in
    record {
      unsound = tt;
      gives = λ vs ok. walk-nothing s.w s.sequences.now vs s.pages.now s.blocks.now s.start s.end ok (omega arith) (omega arith) _ (omega arith)
          (passed_to _ _ _ _ _ _ c.loop-page.invariant.1 c.loop-page.invariant.0 c.in_default.ensures.first);
    }

pub returns-then-words-eq-NONE : goal.returns-then-words-eq-NONE
returns-then-words-eq-NONE c =
    let s = c.args in
    let here = (goal.at.returns-then-words-eq-NONE c).In-Some in
    record {
      unsound = refl;
      gives = λ vs ok.
          let held = live-page s.w s.sequences.now vs s.pages.now s.blocks.now s.start s.end ok (omega arith) _ (page-lt here) (selected here) in
          absurd (held.0 (ap (λ (x : PageWords). x.kind) (sym c.page_words-words.ensures) ∙ c.if-words-eq-NONE.true));
    }

pub returns-in_default-slot_at : goal.returns-in_default-slot_at
returns-in_default-slot_at c =
    let s = c.args in
    let here = (goal.at.returns-in_default-slot_at c).In-Some in
    let e = word-is _ _ _ _ _ _ c.page_words-words.ensures c.bits_within.ensures in
    record {
      unsound = refl;
      gives = λ vs ok.
          absurd (walk-cell s.w s.sequences.now vs s.pages.now s.blocks.now s.start s.end ok (omega arith) _ (page-lt here) (selected here) (up_to here)
          (λ z. c.if-occupied-ne0.true (e ∙ z)) _ _ _ _ _ c.page_words-words.ensures c.page_cells-cells.ensures c.bits_within.ensures c.lowest.ensures c.slot_at.ensures
          c.in_default-slot_at.is);
    }

pub returns-in-Some-slot_at : goal.returns-in-Some-slot_at
returns-in-Some-slot_at c =
    let s = c.args in
    let here = (goal.at.returns-in-Some-slot_at c).In-Some in
    let e = word-is _ _ _ _ _ _ c.page_words-words.ensures c.bits_within.ensures in
    record {
      unsound = tt;
      gives = λ vs ok.
          walk-answer s.w s.sequences.now vs s.pages.now s.blocks.now s.start s.end ok (omega arith) _ (page-lt here) (selected here) (up_to here)
          (λ z. c.if-occupied-ne0.true (e ∙ z)) _ _ _ _ _ c.page_words-words.ensures c.page_cells-cells.ensures c.bits_within.ensures c.lowest.ensures c.slot_at.ensures
          _ c.in-Some-slot_at.is;
    }
