-- The next reachable cell, over plain variables, from block to block; PageCellLaws has what one page and one block give. Assumes nothing.
use Rattle.std.proofs.Common.{◌≡◌, ℕ, ◌+◌, ◌-◌, ◌*◌, ◌/◌, ◌%◌, ◌<◌, ◌≤◌, Bool, true, false, true≢false, ◌&&◌, eqb, List, sym, refl, ap, ◌∙◌, subst, arith, le-ltb, lt-ltb, eq-eqb, ne_eqb, eqb-true}
use Rattle.std.specs.Prelude.{Option, Some, None, IfSome, unwrap_or, is_some}
use mathlib.Core.Bool.{and-true, and-false}
use native.Mathlib.Decide.{ℕ_discrete}
use Rattle.words.proofs.CaseLaws.{bool, both}
use Rattle.words.proofs.FirstLaws.{IsFirst, first-is, first-eq}
use Rattle.words.specs.Word.{bit_at, is_set}
use Rattle.words.proofs.BitLaws.{bit-lt, bit-none}
use Rattle.window.specs.declared.AdaptiveReceiverPacketWindow.{AdaptiveReceiverPacketWindow}
use Rattle.window.specs.Memory.{Memory, memory, capacity, page_count_of}
use Rattle.window.proofs.MemoryLaws.{capacity-le, capacity-pages}
use Rattle.model.specs.Window.{Page, decode, is_retired, in_use, is_reached, reads_of}
use Rattle.model.specs.Sound.{Sound}
use Rattle.page_base.specs.Page.{words_at, part_of, page, Placed}
use Rattle.page_base.proofs.DecodeLaws.{page-at}
use Rattle.page_base.proofs.LiveLaws.{page-placed}
use Rattle.block_search.specs.declared.Select.TheVariants.{Live}
use Rattle.block_search.specs.Search.{selected_pages_of}
use Rattle.block_search.proofs.SearchLaws.{live-in-block, empty-in-block}
use Rattle.call_base.proofs.FitLaws.{at_bounds}
use Rattle.call_read.specs.Promises.{is_live_cell, cell_in_page_of, cell_in_block_of, FindsCell}

-- ---- on a sound window the cells that the words hold are those that are reached

-- a page without an occupied position has no cell in use
none-used : (n : ℕ) (p : Page) → Placed n p → p.occupied ≡ 0 → (c : ℕ) → c < 64 → bit_at p.filled c ≡ 0
none-used n p ok z c l =
    elim (ℕ_discrete (bit_at p.filled c) 1) [
      | yes u ↦
          let j = p.sequences c % 64 in
          absurd (omega (arith, ok.named c l u, ap (λ (w : ℕ). bit_at w j) z, bit-none j))
      | no u ↦ omega (arith, bit-lt p.filled c)
    ]

module _ (h : AdaptiveReceiverPacketWindow) (m : Memory) (ok : Sound (decode h m)) (q : ℕ) (below : q < capacity h.window_size) where
  abbrev g : ℕ
  g = q / 64

  abbrev live : ℕ
  live = selected_pages_of m.blocks h.retired_blocks (g / 64) Live

  inside : q / 64 < page_count_of h.window_size
  inside = (at_bounds h.window_size q below).page

  words_are : (decode h m).pages (q / 64) ≡ page (words_at m.pages (q / 64)) (part_of (q / 64) m.sequences) (part_of (q / 64) m.values)
  words_are = page-at h m g inside

  used-is : in_use (decode h m) q ≡ is_set (words_at m.pages (q / 64)).filled (q % 64)
  used-is = ap (λ (p : Page). is_set p.filled (q % 64)) words_are

  held-is : is_live_cell m.pages (selected_pages_of m.blocks h.retired_blocks (q / 64 / 64) Live) q ≡ is_reached (decode h m) q
  held-is =
      bool (is_set live (g % 64))
      (λ s. rw (s, (live-in-block h m ok g inside s).1, used-is) (sym (and-true _)))
      (λ s.
      bool (is_retired (decode h m) g)
      (λ r. rw (s, r) (sym (and-false (in_use (decode h m) q))))
      (λ r.
      let p = page (words_at m.pages g) (part_of g m.sequences) (part_of g m.values) in
      let z : p.occupied ≡ 0 = ap (λ (x : Page). x.occupied) (sym words_are) ∙ empty-in-block h m ok g inside s r in
      let u = none-used h.n p (page-placed h m ok g inside) z (q % 64) (omega arith) in
      rw (s, r, used-is, ne_eqb (bit_at p.filled (q % 64)) 1 (λ e. omega (arith, e, u))) refl))

-- ---- what the code gives

-- no cell from start on and below block b is held
pub record NoneBefore (pages blocks : List ℕ) (retired_blocks start end b : ℕ) : Type 0 where
  pub none : (q : ℕ) → start ≤ q → q < end → q / 4096 < b → is_live_cell pages (selected_pages_of blocks retired_blocks (q / 64 / 64) Live) q ≡ false

module _ (h : AdaptiveReceiverPacketWindow) (pages blocks : List ℕ) (start end : ℕ) (some : start < end) (top : end ≡ capacity h.window_size) where
  abbrev pages_of : ℕ → ℕ
  pages_of b = selected_pages_of blocks h.retired_blocks b Live

  -- by the block of the cell
  held_in : (b q : ℕ) → q / 4096 ≡ b → is_live_cell pages (selected_pages_of blocks h.retired_blocks (q / 64 / 64) Live) q ≡ is_live_cell pages (selected_pages_of blocks h.retired_blocks b Live) q
  held_in b q e = let d : q / 64 / 64 ≡ b = omega (arith, e) in ap (λ (x : ℕ). is_live_cell pages (pages_of x) q) d

  -- o is cell c if c is below the end, none if c is the end
  finds : (o : Option ℕ) (c reads : ℕ) → IfSome o (λ x. x < end) → unwrap_or o end ≡ c → start ≤ c → c ≤ end → (c < end → is_live_cell pages (selected_pages_of blocks h.retired_blocks (c / 64 / 64) Live) c ≡ true)
      → ((q : ℕ) → start ≤ q → q < c → is_live_cell pages (selected_pages_of blocks h.retired_blocks (q / 64 / 64) Live) q ≡ false) → reads ≡ reads_of end start c
      → FindsCell h pages blocks start end (record { cell = o; reads = reads })
  finds o c reads within is low high held none e = record {
    bounded = within;
    counted = e ∙ ap (reads_of end start) (sym is);
    gives = λ ss vs ok.
        let m = memory ss vs pages blocks in
        is ∙ first-eq (is_reached (decode h m)) (end - start) start c (record {
          from = low;
          top = omega arith;
          held = λ l. let k : c < end = omega arith in sym (held-is h m ok c (omega (arith, top))) ∙ held k;
          none = λ q a b. sym (held-is h m ok q (omega (arith, top, high))) ∙ none q a b;
        });
  }

  -- the reads for a cell of block b, and for none where b is the last block
  reads-found : (c b : ℕ) → c < end → c / 4096 ≡ b → b - start / 4096 + 1 ≡ reads_of end start c
  reads-found c b l e = rw (lt-ltb start end some, lt-ltb c end l, e) refl

  reads_end : (b : ℕ) → (end - 1) / 4096 ≡ b → b - start / 4096 + 1 ≡ reads_of end start end
  reads_end b e = rw (lt-ltb start end some, le-ltb end end (omega arith), e) refl

  -- a cell of the page of the start
  pub own-cell : (c : ℕ) → c ≡ cell_in_page_of pages (selected_pages_of blocks h.retired_blocks (start / 4096) Live) (start / 64) (start % 64) → c < 64
      → FindsCell h pages blocks start end (record { cell = Some (64 * (start / 64) + c); reads = 1 })
  unfolding cell_in_page_of
  own-cell c e l =
      let P : ℕ → Bool = λ (x : ℕ). is_live_cell pages (pages_of (start / 4096)) (64 * (start / 64) + x) in
      let i = subst (IsFirst P (start % 64) (64 - start % 64 + start % 64)) (sym e) (first-is P (64 - start % 64) (start % 64)) in
      let b = capacity-pages h.window_size in
      let z = 64 * (start / 64) + c in
      finds (Some z) z 1 (omega (arith, top, b)) refl (omega (arith, i.from)) (omega (arith, top, b)) (λ k. held_in (start / 4096) z (omega arith) ∙ i.held (omega arith))
      (λ q x y.
      let d : 64 * (start / 64) + q % 64 ≡ q = omega arith in
      held_in (start / 4096) q (omega arith) ∙ subst (λ (k : ℕ). is_live_cell pages (pages_of (start / 4096)) k ≡ false) d (i.none (q % 64) (omega arith) (omega arith)))
      (let one : 1 ≡ start / 4096 - start / 4096 + 1 = omega arith in one ∙ reads-found z (start / 4096) (omega (arith, top, b)) (omega arith))

  pub none-begins : (b : ℕ) → b ≤ start / 4096 → NoneBefore pages blocks h.retired_blocks start end b
  none-begins b low = record { none = λ q a l k. absurd (omega arith) }

  -- c is what block b gave
  module _ (b c : ℕ) (t : NoneBefore pages blocks h.retired_blocks start end b)
      (e : c ≡ cell_in_block_of pages (selected_pages_of blocks h.retired_blocks b Live) b start end) where
    abbrev P : ℕ → Bool
    P q = eqb (q / 4096) b && is_live_cell pages (pages_of b) q

    found-is : IsFirst (λ (q : ℕ). eqb (q / 4096) b && is_live_cell pages (selected_pages_of blocks h.retired_blocks b Live) q) start (end - start + start) c
    unfolding cell_in_block_of
    found-is = subst (IsFirst P start (end - start + start)) (sym e) (first-is P (end - start) start)

    -- none of the block's cells before it
    none_in : (q : ℕ) → start ≤ q → q < c → q / 4096 ≡ b → is_live_cell pages (selected_pages_of blocks h.retired_blocks (q / 64 / 64) Live) q ≡ false
    none_in q a l d = held_in b q d ∙ subst (λ (x : Bool). (x && is_live_cell pages (pages_of b) q) ≡ false) (eq-eqb (q / 4096) b d) (found-is.none q a l)

    cell-le : c ≤ end
    cell-le = omega (arith, found-is.top)

    block-cell : c < end → FindsCell h pages blocks start end (record { cell = Some c; reads = b - start / 4096 + 1 })
    block-cell l =
        let w = both _ _ (found-is.held (omega arith)) in
        let d : c / 4096 ≡ b = eqb-true _ _ w.0 in
        finds (Some c) c _ l refl found-is.from cell-le (λ k. held_in b c d ∙ w.1)
        (λ q x y. elim (ℕ_discrete (q / 4096) b) [
          | yes k ↦ none_in q x y k
          | no k ↦ t.none q x (omega arith) (omega arith)
        ])
        (reads-found c b l d)

    none_after : end ≤ c → NoneBefore pages blocks h.retired_blocks start end (b + 1)
    none_after l = record {
      none = λ q x y k. elim (ℕ_discrete (q / 4096) b) [
        | yes d ↦ none_in q x (omega arith) d
        | no d ↦ t.none q x y (omega arith)
      ];
    }

    -- b is the last block
    block_end : end ≤ c → (end - 1) / 4096 ≡ b → FindsCell h pages blocks start end (record { cell = None; reads = b - start / 4096 + 1 })
    block_end l d =
        finds None end _ tt refl (omega arith) (omega arith) (λ k. absurd (omega arith))
        (λ q x y. (none_after l).none q x y (omega arith))
        (reads_end b d)

  -- block b gave a cell, or it is the last
  pub block-ends : (b : ℕ) → NoneBefore pages blocks h.retired_blocks start end b → (o : Option ℕ) → IfSome o (λ q. q < end)
      → unwrap_or o end ≡ cell_in_block_of pages (selected_pages_of blocks h.retired_blocks b Live) b start end → (is_some o ≡ false → (end - 1) / 4096 ≡ b)
      → FindsCell h pages blocks start end (record { cell = o; reads = b - start / 4096 + 1 })
  block-ends b t (Some c) within e last = block-cell b c t e within
  block-ends b t None within e last = block_end b end t e (omega arith) (last refl)

  -- it gave none
  pub none-next : (b : ℕ) → NoneBefore pages blocks h.retired_blocks start end b → (o : Option ℕ)
      → unwrap_or o end ≡ cell_in_block_of pages (selected_pages_of blocks h.retired_blocks b Live) b start end → is_some o ≡ false
      → NoneBefore pages blocks h.retired_blocks start end (b + 1)
  none-next b t (Some c) e n = absurd (true≢false n)
  none-next b t None e n = none_after b end t e (omega arith)

-- what the tactics know of a walk over the blocks
pub ruleset walking = (none-begins, none-next, at_bounds, capacity-pages, capacity-le)
