-- A stretch of positions retired, over plain variables: its partial pages, its whole pages, and all of it. Assumes nothing.
use mathlib.Core.Path.{◌≡◌, sym, ap, ◌∙◌}
use mathlib.Core.Bool.{Bool, cond, not, ◌||◌}
use mathlib.Core.List.{List, []}
use Prim.Native.Nat.{ℕ, ◌+◌, ◌-◌, ◌*◌, ◌/◌, ◌%◌, ◌≤◌, ◌<◌}
use native.Mathlib.Omega.{arith}
use native.Mathlib.Decide.{dec_lt, dec_le}
use lib.Dec.{leb, ltb}
use lib.ListN.{length, drop}
use borrow.Author.Tests.{eq-eqb, ne_eqb, le-leb, lt-leb, lt-ltb, le-ltb}
use Rattle.words.specs.Word.{is_set, span}
use Rattle.window.specs.declared.AdaptiveReceiverPacketWindow.{AdaptiveReceiverPacketWindow}
use Rattle.window.specs.Memory.{Memory, memory, capacity, page_count_of, block_count_of, words_per_page, words_per_block}
use Rattle.window.proofs.MemoryLaws.{capacity-pages, page-count-le}
use Rattle.window.specs.declared.Cause.TheVariants.{Range}
use Rattle.model.specs.Table.{within}
use Rattle.model.specs.Window.{Window, decode, is_retired, capacity_of}
use Rattle.model.specs.Pages.{PageDrained, holds_value, demotes, after_removal}
use Rattle.model.specs.Steps.{Returned, returned_by, sub_live_of, put_page, count_demotion_of, remove_slots_of, retire_pages_of, retire_stretch}
use Rattle.page_base.proofs.DecodeLaws.{header_at}
use Rattle.page_remove.proofs.DrainLaws.{drain-same}
use Rattle.laws_soundness.specs.Change.{Limits}
use Rattle.laws_soundness.proofs.LimitLaws.{first-limits}
use Rattle.laws_soundness.specs.Retire.{Retiring, first_page, last_page}
use Rattle.laws_soundness.proofs.RetireRangeLaws.{retiring-first, retiring-last}
use Rattle.block_retire.specs.Promises.{RetiresPages}
use Rattle.block_retire.proofs.CountedLaws.{retiring-counted}
use Rattle.block_retire.proofs.RunLaws.{span_set, span-unset-below, span-unset-above}
use Rattle.range_retire.specs.declared.Retired.{Retired}
use Rattle.range_retire.specs.Spans.{end_pages, partial, span_most}
use Rattle.range_retire.specs.Promises.{Performs}
use Rattle.range_retire.proofs.PerformLaws.{FitsMemory, fits_kept, performs-as}

-- ---- tests at the positions of a page

-- the same positions
slots_same : (w : Window) (g : ℕ) (P Q : ℕ → Bool) → ((j : ℕ) → j < 64 → P j ≡ Q j) → remove_slots_of w g P ≡ remove_slots_of w g Q
unfolding remove_slots_of
slots_same w g P Q h =
    let demote_at = w.header.demote_at in
    ap (λ (d : PageDrained).
    cond (is_retired w g || not (holds_value (w.pages g))) (returned_by w [])
    (returned_by (count_demotion_of Range (put_page (sub_live_of w (g / 64) (length d.out)) g (after_removal demote_at d.page)) (demotes demote_at d.page)) d.out))
    (drain-same P Q 64 0 64 (w.pages g) (λ i x y. h i (omega arith)))

-- positions from f up to t, as a span of bits
span-within : (f t a e q j : ℕ) → f ≤ t → (f ≤ j → a ≤ q) → (j < f → q < a) → (j < t → q < e) → (t ≤ j → e ≤ q) → is_set (span f t) j ≡ within a e q
span-within f t a e q j le low low' high high' =
    elim (dec_le f j) [
      | yes p ↦ elim (dec_lt j t) [
        | yes x ↦ rw (span_set f t j le p x, le-leb a q (low p), lt-ltb q e (high x))
        | no x ↦ rw (span-unset-above f t j le (omega arith), le-leb a q (low p), le-ltb q e (high' (omega arith)))
      ]
      | no p ↦ rw (span-unset-below f t j le (omega arith), lt-leb a q (low' (omega arith)))
    ]

span-from : (f j : ℕ) → f ≤ 64 → j < 64 → is_set (span f 64) j ≡ leb f j
span-from f j le l = elim (dec_le f j) [
  | yes p ↦ rw (span_set f 64 j le p l, le-leb f j p)
  | no p ↦ rw (span-unset-below f 64 j le (omega arith), lt-leb f j (omega arith))
]

span_to : (t j : ℕ) → is_set (span 0 t) j ≡ ltb j t
span_to t j = elim (dec_lt j t) [
  | yes p ↦ rw (span_set 0 t j (omega arith) (omega arith) p, lt-ltb j t p)
  | no p ↦ rw (span-unset-above 0 t j (omega arith) (omega arith), le-ltb j t (omega arith))
]

-- ---- how many values there can be

pub partial-none : (q : ℕ) → q % 64 ≡ 0 → partial q ≡ 0
unfolding partial
partial-none q e = rw (eq-eqb (q % 64) 0 e)

pub partial-some : (q : ℕ) → (q % 64 ≡ 0 → ⊥) → partial q ≡ 64
unfolding partial
partial-some q e = rw (ne_eqb (q % 64) 0 e)

pub most-inside : (a e : ℕ) → a / 64 ≡ (e - 1) / 64 → span_most a e ≡ 64
unfolding span_most
most-inside a e q = rw (eq-eqb (a / 64) ((e - 1) / 64) q)

pub most-across : (a e : ℕ) → (a / 64 ≡ (e - 1) / 64 → ⊥) → span_most a e ≡ partial a + partial e
unfolding span_most
most-across a e q = rw (ne_eqb (a / 64) ((e - 1) / 64) q)

-- ---- the partial pages

module _ (h : AdaptiveReceiverPacketWindow) (m : Memory) (at : ℕ) (l : List ℕ) (q : ℕ) where
  abbrev first : Window → Returned
  first v = first_page v q

  abbrev last : Window → Returned
  last v = last_page v q

  module _ (some : q % 64 ≡ 0 → ⊥) (slots : ℕ) (r : Retired) (m' : Memory) (l' : List ℕ) (t : Performs (λ (v : Window). remove_slots_of v (q / 64) (is_set slots)) 64 h m at l r m' l') where
    pub head-part : slots ≡ span (q % 64) 64 → Performs (λ (v : Window). first_page v q) (partial q) h m at l r m' l'
    head-part s =
        performs-as (partial q) h m at l 64 (λ (v : Window). remove_slots_of v (q / 64) (is_set slots)) first r m' l' (omega (arith, partial-some q some))
        (rw (ne_eqb (q % 64) 0 some)
        (slots_same (decode h m) (q / 64) (is_set slots) (λ (j : ℕ). leb (q % 64) j) (λ j k. ap (λ (x : ℕ). is_set x j) s ∙ span-from (q % 64) j (omega arith) k)))
        t

    pub tail-part : slots ≡ span 0 (q % 64) → Performs (λ (v : Window). last_page v q) (partial q) h m at l r m' l'
    tail-part s =
        performs-as (partial q) h m at l 64 (λ (v : Window). remove_slots_of v (q / 64) (is_set slots)) last r m' l' (omega (arith, partial-some q some))
        (rw (ne_eqb (q % 64) 0 some)
        (slots_same (decode h m) (q / 64) (is_set slots) (λ (j : ℕ). ltb j (q % 64)) (λ j k. ap (λ (x : ℕ). is_set x j) s ∙ span_to (q % 64) j)))
        t

-- ---- both

module _ (h : AdaptiveReceiverPacketWindow) (m : Memory) (a e : ℕ) (start : a < capacity h.window_size) (end : e ≤ capacity h.window_size) where
  -- the window once its first partial page is emptied
  pub retiring-begun : Retiring (decode h m) → Retiring (first_page (decode h m) a).after
  unfolding decode
  retiring-begun ok = retiring-first (decode h m) ok a start

  pub retiring-ended : Retiring (decode h m) → Retiring (end_pages (decode h m) a e).after
  retiring-ended ok = retiring-last (first_page (decode h m) a).after (retiring-begun ok) e inside
    where
      same : (first_page (decode h m) a).after.header.window_size ≡ h.window_size
      same = ap (λ (y : Limits). y.size) (first-limits (decode h m) a) ∙ ap (λ (y : AdaptiveReceiverPacketWindow). y.window_size) (header_at h m)

      inside : e ≤ capacity_of (first_page (decode h m) a).after
      inside = rw same end

-- ---- a stretch

-- inside one page
pub span-inside : (h : AdaptiveReceiverPacketWindow) (m : Memory) (at : ℕ) (l : List ℕ) (a e slots : ℕ) (r : Retired) (m' : Memory) (l' : List ℕ) → a < e → a / 64 ≡ (e - 1) / 64
    → slots ≡ span (a % 64) ((e - 1) % 64 + 1) → Performs (λ (v : Window). remove_slots_of v (a / 64) (is_set slots)) 64 h m at l r m' l'
    → Performs (λ (v : Window). retire_stretch v a e) (span_most a e) h m at l r m' l'
unfolding retire_stretch
span-inside h m at l a e slots r m' l' less q s t =
    performs-as (span_most a e) h m at l 64 (λ (v : Window). remove_slots_of v (a / 64) (is_set slots)) (λ (v : Window). retire_stretch v a e) r m' l' (omega (arith, most-inside a e q))
    (rw (eq-eqb (a / 64) ((e - 1) / 64) q)
    (slots_same (decode h m) (a / 64) (is_set slots) (λ (j : ℕ). within a e (a / 64 * 64 + j))
    (λ j k. ap (λ (x : ℕ). is_set x j) s ∙ span-within (a % 64) ((e - 1) % 64 + 1) a e (a / 64 * 64 + j) j (omega arith) (λ x. omega arith) (λ x. omega arith) (λ x. omega arith) (λ x. omega arith))))
    t

-- over several pages
stretch-is : (w : Window) (a e : ℕ) → (a / 64 ≡ (e - 1) / 64 → ⊥)
    → retire_stretch w a e ≡ returned_by (retire_pages_of (end_pages w a e).after ((a + 63) / 64) (e / 64)) (end_pages w a e).out
unfolding retire_stretch
stretch-is w a e n = rw (ne_eqb (a / 64) ((e - 1) / 64) n)

module _ (h : AdaptiveReceiverPacketWindow) (m : Memory) (at : ℕ) (l : List ℕ) (a e : ℕ) (far : 64 * (a / 64) + 64 < e) (end : e ≤ capacity h.window_size) (fits : FitsMemory h m)
    (ends : Retired) (ss vs pages blocks l' : List ℕ) (t : Performs (λ (v : Window). end_pages v a e) (partial a + partial e) h m at l ends (memory ss vs pages blocks) l') where
  abbrev from : ℕ
  from = (a + 63) / 64

  abbrev to : ℕ
  to = e / 64

  same_size : ends.window.window_size ≡ h.window_size
  same_size = ap (λ (y : Limits). y.size) t.limits

  ends-fit : FitsMemory ends.window (memory ss vs pages blocks)
  ends-fit = fits_kept h ends.window m (memory ss vs pages blocks) t.limits t.lengths fits

  to_inside : e / 64 ≤ page_count_of ends.window.window_size
  to_inside = rw same_size (omega (arith, capacity-pages h.window_size))

  -- the whole pages are in the lists
  pub across-pages : (e / 64 ≤ 1024) × (words_per_page * (e / 64) ≤ length pages) × (words_per_block * ((e / 64 + 63) / 64) ≤ length blocks)
  across-pages = (
    omega (arith, to_inside, page-count-le ends.window.window_size),
    omega (arith, to_inside, ends-fit.long.pages_long),
    omega (arith, to_inside, ends-fit.long.blocks_long),
  )

  module _ (r : AdaptiveReceiverPacketWindow) (blocks' : List ℕ) (u : RetiresPages ends.window pages blocks ((a + 63) / 64) (e / 64) r blocks') where
    abbrev w : Window
    w = decode h m

    ended : Retiring (decode h m) → Retiring (decode ends.window (memory ss vs pages blocks))
    ended ok = rw (t.gives ok) (retiring-ended h m a e (omega arith) end ok)

    is : retire_stretch w a e ≡ returned_by (retire_pages_of (end_pages w a e).after from to) (end_pages w a e).out
    is = stretch-is w a e (λ q. omega arith)

    blocks-same : drop (words_per_block * block_count_of h.window_size) blocks' ≡ drop (words_per_block * block_count_of h.window_size) blocks
    blocks-same = u.touches.past (block_count_of h.window_size) (omega (arith, to_inside, same_size))

    pub span-across : Performs (λ (v : Window). retire_stretch v a e) (partial a + partial e) h m at l (record { window = r; count = ends.count; sound = ends.sound }) (memory ss vs pages blocks') l'
    span-across = record {
      limits = u.touches.limits ∙ t.limits;
      past = record { sequences = t.past.sequences; values = t.past.values; pages = t.past.pages; blocks = blocks-same ∙ t.past.blocks };
      lengths = record { sequences = t.lengths.sequences; values = t.lengths.values; pages = t.lengths.pages; blocks = u.touches.long ∙ t.lengths.blocks };
      wrote = t.wrote;
      few = t.few;
      sound = t.sound;
      gives = λ ok.
          u.gives (record { inside = to_inside; long = ends-fit.long.blocks_long }) ss vs (retiring-counted ends.window (memory ss vs pages blocks) (ended ok))
          ∙ ap (λ (y : Window). retire_pages_of y from to) (t.gives ok) ∙ sym (ap (λ (y : Returned). y.after) is);
      out = λ ok. t.out ok ∙ sym (ap (λ (y : Returned). y.out) is);
    }
