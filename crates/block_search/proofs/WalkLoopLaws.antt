-- The walk over live pages, over plain variables: what a page's occupied word says of its positions, and what each way out of the
-- loop gives. Assumes nothing.
use mathlib.Core.Path.{◌≡◌, sym, ap, ◌∙◌, subst}
use mathlib.Core.Bool.{Bool, true, false, true≢false}
use mathlib.Core.Option.{some}
use Rattle.std.specs.Prelude.{Option, None, Some, unwrap_or}
use mathlib.Core.List.{List}
use Prim.Native.Nat.{ℕ, ◌+◌, ◌-◌, ◌*◌, ◌/◌, ◌%◌, ◌≤◌, ◌<◌}
use native.Mathlib.Omega.{arith}
use lib.Bits.{bit_and}
use lib.ListN.{get_or}
use borrow.Author.Tests.{lt-ltb, le-ltb, eq-eqb}
use Rattle.words.proofs.CaseLaws.{bool}
use Rattle.words.specs.Word.{bit_at, lowest}
use Rattle.words.proofs.BitLaws.{bit-none}
use Rattle.window.specs.declared.AdaptiveReceiverPacketWindow.{AdaptiveReceiverPacketWindow}
use Rattle.window.specs.Memory.{Memory, memory, capacity, page_count_of}
use Rattle.window.proofs.MemoryLaws.{capacity-pages}
use Rattle.model.specs.Calls.{absent, found}
use Rattle.model.specs.Table.{holds}
use Rattle.model.specs.Window.{Page, Window, decode, cell_of, stands_at, pair_in, is_retired, live_at}
use Rattle.model.specs.Pages.{holds_value}
use Rattle.model.specs.Sound.{Sound}
use Rattle.page_base.specs.declared.PageWords.{PageWords}
use Rattle.page_base.specs.Page.{words_at, part_of, cells, page, Placed}
use Rattle.page_base.specs.Promises.{SlotAt}
use Rattle.page_base.proofs.PartLaws.{cell_in}
use Rattle.page_base.proofs.PlaceLaws.{cell_free, cell-some}
use Rattle.page_base.proofs.DecodeLaws.{page-at}
use Rattle.page_base.proofs.LiveLaws.{page-placed, live-none, live-is}
use Rattle.block_search.specs.declared.Select.TheVariants.{Live}
use Rattle.block_search.specs.Search.{bits_within_of, is_selected}
use Rattle.block_search.proofs.SearchLaws.{live-selected, unselected-empty}
use Rattle.block_search.proofs.WalkLaws.{Passed, clear-in-range, lowest-lt, lowest-held, lowest-range, walk_end, walk-found as at-lowest}
use Rattle.block_search.specs.Promises.{first_live}

-- the occupied positions of page g in the range
abbrev pub occupied_in : List ℕ → ℕ → ℕ → ℕ → ℕ
occupied_in pages start end g = bit_and (words_at pages g).occupied (bits_within_of start end g)

-- what the code holds for the occupied positions in the range
pub word-is : (pages : List ℕ) (start end g b : ℕ) (w : PageWords) → w ≡ words_at pages g → b ≡ bits_within_of start end g
    → bit_and w.occupied b ≡ bit_and (words_at pages g).occupied (bits_within_of start end g)
word-is pages start end g b w ew eb = λ i. bit_and (ew i).occupied (eb i)

-- ---- on a sound window

module _ (h : AdaptiveReceiverPacketWindow) (ss vs pages blocks : List ℕ) (start end : ℕ) where
  abbrev m : Memory
  m = memory ss vs pages blocks

  abbrev v : Window
  v = decode h m

  module _ (ok : Sound v) (top : end ≤ capacity h.window_size) where
    abbrev at : ℕ → Page
    at g = page (words_at pages g) (part_of g ss) (part_of g vs)

    page-is : (g : ℕ) → g < page_count_of h.window_size → (decode h (memory ss vs pages blocks)).pages g ≡ page (words_at pages g) (part_of g ss) (part_of g vs)
    page-is g l = page-at h m g l

    at-placed : (g : ℕ) → g < page_count_of h.window_size → Placed h.n (page (words_at pages g) (part_of g ss) (part_of g vs))
    at-placed g l = page-placed h m ok g l

    below : (q : ℕ) → q < end → q / 64 < page_count_of h.window_size
    below q l = omega (arith, capacity-pages h.window_size)

    retired-none : (q : ℕ) → is_retired (decode h (memory ss vs pages blocks)) (q / 64) ≡ true → holds (live_at (decode h (memory ss vs pages blocks)) q) ≡ false
    retired-none q r = ap holds (live-none h m q r)

    empty-none : (p : Page) (j : ℕ) → cell_of p j ≡ 64 → holds (stands_at p j) ≡ false
    empty-none p j e = rw (le-ltb (cell_of p j) 64 (omega arith))

    -- an unoccupied position holds nothing live
    unoccupied : (q : ℕ) → q < end → bit_at (words_at pages (q / 64)).occupied (q % 64) ≡ 0 → holds (live_at (decode h (memory ss vs pages blocks)) q) ≡ false
    unoccupied q l z =
        bool (is_retired v (q / 64)) (retired-none q)
        (λ r. ap holds (live-is h m q (below q l) r) ∙ empty-none (at (q / 64)) (q % 64) (cell_free h.n (at (q / 64)) (at-placed (q / 64) (below q l)) (q % 64) z))

    -- a page that is not selected has no live value
    unselected : (q : ℕ) → q < end → is_selected blocks h.nonempty_summary h.retired_blocks Live (q / 64) ≡ false
        → holds (live_at (decode h (memory ss vs pages blocks)) q) ≡ false
    unselected q l e =
        let g = q / 64 in
        bool (is_retired v g) (retired-none q)
        (λ r. unoccupied q l (ap (λ (p : Page). bit_at p.occupied (q % 64)) (sym (page-is g (below q l))) ∙ ap (λ (w : ℕ). bit_at w (q % 64)) (unselected-empty h m ok g (below q l) e r) ∙ bit-none (q % 64)))

    abbrev P : ℕ → Bool
    P q = holds (live_at v q)

    unset : (q : ℕ) → start ≤ q → q < end → bit_at (occupied_in pages start end (q / 64)) (q % 64) ≡ 0 → holds (live_at (decode h (memory ss vs pages blocks)) q) ≡ false
    unset q a b z = unoccupied q b (clear-in-range start end (words_at pages (q / 64)).occupied q a b z)

    -- ---- the ways out

    pub walk-nothing : start < end → (from : ℕ) → (end - 1) / 64 < from
        → Passed (is_selected blocks h.nonempty_summary h.retired_blocks Live) (occupied_in pages start end) (start / 64) from
        → absent ≡ first_live (decode h (memory ss vs pages blocks)) start end
    unfolding first_live
    walk-nothing l from past t =
        let q = walk_end (is_selected blocks h.nonempty_summary h.retired_blocks Live) (occupied_in pages start end) P start end (λ q a b. unselected q b) unset l from past t in
        rw (← q, le-ltb end end (omega arith))

    -- a live page holds a value
    pub live-page : (g : ℕ) → g < page_count_of h.window_size → is_selected blocks h.nonempty_summary h.retired_blocks Live g ≡ true
        → ((words_at pages g).kind ≡ 0 → ⊥) × (is_retired (decode h (memory ss vs pages blocks)) g ≡ false)
    live-page g l s =
        let t = live-selected h m ok g l s in
        let o : (v.pages g).occupied ≡ (words_at pages g).occupied = ap (λ (p : Page). p.occupied) (page-is g l) in
        let empty : ((words_at pages g).kind ≡ 0) → holds_value (v.pages g) ≡ false = λ k. rw (eq-eqb _ 0 (o ∙ (at-placed g l).none_occupied k)) in
        (λ k. true≢false (sym t.0 ∙ empty k), t.1)

    -- position j of page g is occupied and in the range, and no lower one of the page is
    module _ (g : ℕ) (l : g < page_count_of h.window_size) (selected : is_selected blocks h.nonempty_summary h.retired_blocks Live g ≡ true)
        (t : Passed (is_selected blocks h.nonempty_summary h.retired_blocks Live) (occupied_in pages start end) (start / 64) g)
        (some_in : bit_and (words_at pages g).occupied (bits_within_of start end g) ≡ 0 → ⊥) where
      abbrev j : ℕ
      j = lowest (bit_and (words_at pages g).occupied (bits_within_of start end g)) 0

      slot_lt : lowest (bit_and (words_at pages g).occupied (bits_within_of start end g)) 0 < 64
      slot_lt = lowest-lt start end g (words_at pages g).occupied (at-placed g l).occupied_fits some_in

      range : (start ≤ 64 * g + j) × (64 * g + j < end)
      range = lowest-range start end g (words_at pages g).occupied (at-placed g l).occupied_fits some_in

      pub slot-cell : cell_of (page (words_at pages g) (part_of g ss) (part_of g vs)) (lowest (bit_and (words_at pages g).occupied (bits_within_of start end g)) 0) < 64
      slot-cell = cell-some h.n (at g) (at-placed g l) j slot_lt (lowest-held start end g (words_at pages g).occupied (at-placed g l).occupied_fits some_in)

      here : live_at (decode h (memory ss vs pages blocks)) (64 * g + j) ≡ some (pair_in (at g) (cell_of (at g) j))
      here =
          let d : (64 * g + j) / 64 ≡ g = omega (arith, slot_lt) in
          let r : (64 * g + j) % 64 ≡ j = omega (arith, slot_lt) in
          live-is h m (64 * g + j) (below (64 * g + j) range.1) (ap (is_retired v) d ∙ (live-page g l selected).1)
          ∙ rw (d, r, lt-ltb (cell_of (at g) j) 64 slot-cell)

      answer_at : (c : ℕ) → c ≡ cell_of (page (words_at pages g) (part_of g ss) (part_of g vs)) (lowest (bit_and (words_at pages g).occupied (bits_within_of start end g)) 0)
          → found (cells (part_of g ss) c) ≡ first_live (decode h (memory ss vs pages blocks)) start end
      unfolding first_live
      answer_at c e =
          let q = at-lowest (is_selected blocks h.nonempty_summary h.retired_blocks Live) (occupied_in pages start end) P start end (λ q a b. unselected q b) unset g t slot_lt range (ap holds here) in
          rw (← q, lt-ltb (64 * g + j) end range.1, here) (ap (λ (x : ℕ). found (cells (part_of g ss) x)) e)

      -- the same of what the code holds: the page's words, its part of the sequences, the range's bits and the cell found
      module _ (w : PageWords) (cs : List ℕ) (b q : ℕ) (r : Option ℕ) (ew : w ≡ words_at pages g) (ec : cs ≡ part_of g ss) (eb : b ≡ bits_within_of start end g)
          (eq : q ≡ lowest (bit_and w.occupied b) 0) (slot : SlotAt h.n w cs q r) where
        cell-is : unwrap_or r 64 ≡ cell_of (page (words_at pages g) (part_of g ss) (part_of g vs)) (lowest (bit_and (words_at pages g).occupied (bits_within_of start end g)) 0)
        cell-is =
            let e : q ≡ lowest (bit_and (words_at pages g).occupied (bits_within_of start end g)) 0 = eq ∙ (λ i. lowest (bit_and (ew i).occupied (eb i)) 0) in
            slot.cell (part_of g vs) (subst (Placed h.n) (sym (λ i. page (ew i) (ec i) (part_of g vs))) (at-placed g l))
            ∙ (λ i. cell_of (page (ew i) (ec i) (part_of g vs)) (e i))

        -- there is a cell, and its sequence is the answer
        pub walk-cell : r ≡ None → ⊥
        walk-cell e = omega (arith, cell-is, slot-cell, ap (λ (o : Option ℕ). unwrap_or o 64) e)

        pub walk-answer : (c : ℕ) → r ≡ Some c → found (get_or cs c 0) ≡ first_live (decode h (memory ss vs pages blocks)) start end
        walk-answer c e =
            let at-cell : c ≡ cell_of (page (words_at pages g) (part_of g ss) (part_of g vs)) (lowest (bit_and (words_at pages g).occupied (bits_within_of start end g)) 0)
            = ap (λ (o : Option ℕ). unwrap_or o 64) (sym e) ∙ cell-is in
            ap (λ (x : ℕ). found x) (ap (λ (l : List ℕ). get_or l c 0) ec ∙ sym (cell_in (part_of g ss) c (omega (arith, at-cell, slot-cell))))
            ∙ answer_at c at-cell
