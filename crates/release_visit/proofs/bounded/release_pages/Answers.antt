use mathlib.Core.Path.{◌≡◌, ap, ◌∙◌}
use mathlib.Core.Logic.{inl, inr, ⊎_elim}
use Prim.Native.Nat.{ℕ, ◌-◌, ◌*◌, ◌≤◌, ◌<◌}
use native.Mathlib.Omega.{arith}
use lib.ListN.{length}
use borrow.Author.Tests.{not-true}
use Rattle.words.specs.First.{first_from_of}
use Rattle.window.specs.Memory.{page_count_of, block_count_of, words_per_block}
use Rattle.window.proofs.MemoryLaws.{capacity-pages, page-count-le}
use Rattle.block_search.specs.declared.Select.TheVariants.{Nonempty}
use Rattle.block_search.specs.Search.{is_selected}
use Rattle.laws_soundness.specs.Change.{Limits}
use Rattle.release_visit.proofs.VisitLaws.{long_kept}
use Rattle.release_visit.proofs.BoundedLaws.{passing_begins, passing-turn, passing-unsound, passing-ends, next-ge, none_found, page-unsound}
use Rattle.release_visit.proofs.bounded.release_pages.Goals as goal
use Rattle.release_visit.proofs.bounded.release_pages.Goals.{At-loop-count, Joined-else-window-eq0, In-Some}

-- at the head of the loop: the limits are those of the call's header, and the lists are as long as they name them
cells_is : (c : At-loop-count) → c.loop-count.window.n ≡ c.args.w.n
cells_is c = ap (λ (x : Limits). x.cells) c.loop-count.invariant.limits

blocks_long : (c : At-loop-count) → words_per_block * block_count_of c.loop-count.window.window_size ≤ length c.loop-count.blocks
blocks_long c =
    let need = c.requires.window_size_in_bounds in
    (long_kept c.args.w c.loop-count.window _ _ c.args.pages.now c.args.blocks.now c.loop-count.pages c.loop-count.blocks c.loop-count.invariant.limits c.loop-count.invariant.within
    (record { sequences_long = need.0; values_long = need.1; pages_long = need.2; blocks_long = need.3 })).blocks_long

-- in the loop: a value is held
some-held : (c : Joined-else-window-eq0) → c.loop-count.window.len ≡ 0 → c.loop-count.window.retired_held ≡ 0 → ⊥
some-held c a b = ⊎_elim (λ h. h.1 b) (λ h. h a) c.else-window-eq0.either

-- the search goes up to the number of pages
first-is : (c : At-loop-count) (g : ℕ) →
    let p = c.loop-count in
    g ≡ first_from_of (is_selected p.blocks p.window.nonempty_summary p.window.retired_blocks Nonempty) (c.page_count-end.result - p.from) p.from
    → g ≡ first_from_of (is_selected p.blocks p.window.nonempty_summary p.window.retired_blocks Nonempty) (page_count_of c.args.w.window_size - p.from) p.from
first-is c g e =
    let p = c.loop-count in
    e ∙ ap (λ (x : ℕ). first_from_of (is_selected p.blocks p.window.nonempty_summary p.window.retired_blocks Nonempty) (x - p.from) p.from) c.page_count-end.ensures

page-lt : (c : In-Some) → c.in-Some.page < page_count_of c.args.w.window_size
page-lt c = omega (arith, c.in-Some.ensures.in_range, c.page_count-end.ensures)

pub loop-count-init : goal.loop-count-init
loop-count-init c = passing_begins _ _ _ _ _ _ _ _

pub next_page-requires : goal.next_page-requires
next_page-requires c =
    let end_is = c.page_count-end.ensures in
    let t = c.loop-count.invariant in
    (omega (arith, end_is, t.low), omega (arith, end_is, page-count-le c.args.w.window_size), omega (arith, end_is, c.requires.window_size_in_bounds.3, t.within.blocks_long))

pub returns-in_default : goal.returns-in_default
returns-in_default c =
    let a = c.args in
    let t = c.loop-count.invariant in
    let at = goal.at.returns-in_default c in
    passing-unsound a.w a.sequences.now a.values.now a.pages.now a.blocks.now a.returned.now a.at a.limit _ _ _ _ _ _ t
    (none_found _ _ _ _ _ _ _ _ _ _ _ _ _ _ t c.loop-count-test.true (some-held at.Joined-else-window-eq0) _ (first-is at.At-loop-count _ c.in_default.ensures.first)
    (omega (arith, c.page_count-end.ensures)))

pub release_page-released-requires : goal.release_page-released-requires
release_page-released-requires c =
    let size = c.args.w.window_size in
    let end_is = c.page_count-end.ensures in
    let t = c.loop-count.invariant in
    let low = c.in-Some.ensures.in_range in
    let need = c.requires.window_size_in_bounds in
    let few = c.requires.window_size_bound in
    record {
      page_bound = (
        omega (arith, end_is, low, page-count-le size),
        omega (arith, end_is, low, need.0, capacity-pages size),
        omega (arith, end_is, low, need.1, capacity-pages size),
        omega (arith, end_is, low, need.2, t.within.pages_long),
      );
      row_in = (omega (arith, end_is, low, need.3, t.within.blocks_long), few.1, omega (arith, few.2), omega (arith, few.3, t.wrote.long, c.loop-count-test.true));
    }

pub returns-then-not-released : goal.returns-then-not-released
returns-then-not-released c =
    let a = c.args in
    let t = c.loop-count.invariant in
    let at = goal.at.returns-then-not-released c in
    passing-unsound a.w a.sequences.now a.values.now a.pages.now a.blocks.now a.returned.now a.at a.limit _ _ _ _ _ _
    (passing-turn _ _ _ _ _ _ _ _ _ _ _ _ _ _ t c.loop-count-test.true (some-held at.Joined-else-window-eq0) _ (first-is at.At-loop-count _ c.in-Some.ensures.first)
    (page-lt at.In-Some) (blocks_long at.At-loop-count) _ (cells_is at.At-loop-count) _ _ _ _ c.release_page-released.ensures
    c.requires.window_size_bound.3)
    (page-unsound _ _ _ _ _ _ _ _ _ _ _ _ _ _ t c.loop-count-test.true (some-held at.Joined-else-window-eq0) _ (first-is at.At-loop-count _ c.in-Some.ensures.first)
    (page-lt at.In-Some) (blocks_long at.At-loop-count) _ (cells_is at.At-loop-count) _ _ _ _ c.release_page-released.ensures
    c.requires.window_size_bound.3 (not-true _ c.if-not-released.true))

pub loop-count-smaller : goal.loop-count-smaller
loop-count-smaller c =
    let at = goal.at.loop-count-smaller c in
    omega (
      arith,
      next-ge _ _ _ _ _ _ _ _ _ _ _ _ _ _ c.loop-count.invariant c.loop-count-test.true (some-held at.Joined-else-window-eq0) _ (first-is at.At-loop-count _ c.in-Some.ensures.first),
      c.in-Some.ensures.in_range,
    )

pub loop-count-preserved : goal.loop-count-preserved
loop-count-preserved c =
    let at = goal.at.loop-count-preserved c in
    passing-turn _ _ _ _ _ _ _ _ _ _ _ _ _ _ c.loop-count.invariant c.loop-count-test.true (some-held at.Joined-else-window-eq0) _ (first-is at.At-loop-count _ c.in-Some.ensures.first)
    (page-lt at.In-Some) (blocks_long at.At-loop-count) _ (cells_is at.At-loop-count) _ _ _ _ c.release_page-released.ensures
    c.requires.window_size_bound.3

pub returns-after-loop-count : goal.returns-after-loop-count
returns-after-loop-count c =
    let a = c.args in
    passing-ends a.w a.sequences.now a.values.now a.pages.now a.blocks.now a.returned.now a.at a.limit _ _ _ _ _ _ c.loop-count.invariant
    (inl (omega (arith, c.loop-count-test.false)))

pub returns-then-window-eq0-2 : goal.returns-then-window-eq0-2
returns-then-window-eq0-2 c =
    let a = c.args in
    passing-ends a.w a.sequences.now a.values.now a.pages.now a.blocks.now a.returned.now a.at a.limit _ _ _ _ _ _ c.loop-count.invariant
    (inr (c.if-window-eq0.true, c.if-window-eq0-2.true))
