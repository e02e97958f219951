-- The positions that hold no live value once whole pages, a stretch or a range are retired: just those named. Assumes nothing.
use mathlib.Core.Path.{◌≡◌, refl, ap, ◌∙◌}
use mathlib.Core.Bool.{Bool, true, false, cond, not, ◌&&◌}
use mathlib.Core.Logic.{◌⊎◌, ⊎_elim, inl, inr}
use mathlib.Core.List.{[], ◌++◌}
use Prim.Native.Nat.{ℕ, zero, suc, ◌+◌, ◌-◌, ◌*◌, ◌/◌, ◌%◌, ◌≤◌, ◌<◌}
use native.Mathlib.Omega.{arith}
use native.Mathlib.Decide.{dec_lt}
use lib.Dec.{leb, ltb, eqb}
use borrow.Author.Tests.{le-leb, lt-ltb, leb-true, leb-false, ltb-true, ltb-false, eqb-true, eqb-false}
use Rattle.words.proofs.CaseLaws.{bool, both}
use Rattle.window.proofs.MemoryLaws.{capacity-pages}
use Rattle.model.specs.Table.{within, covers}
use Rattle.model.specs.Window.{Window, pages_of, blocks_of, capacity_of}
use Rattle.model.specs.Steps.{Returned, returned_by, remove_slots_of, retire_in_block, retire_block_of, covers_block, retire_blocks_of, retire_pages_of, retire_stretch, retire_range_of}
use Rattle.laws_soundness.specs.Change.{Limits}
use Rattle.laws_soundness.proofs.PageLaws.{cond-holds}
use Rattle.laws_soundness.proofs.LimitLaws.{next-limits, first-limits, last-limits, stretch-limits}
use Rattle.laws_soundness.specs.Retire.{Retiring, retire_next, inside_page, first_page, last_page}
use Rattle.laws_soundness.proofs.RetireRangeLaws.{retiring-next, retiring-first, retiring-last, retiring-stretch}
use Rattle.range_retire.proofs.LiveLaws.{Clears, clears-as, slots-clear, block-clear, in-block-clear}

-- ---- positions cleared one after another

-- nothing is cleared
clears-none : (cap : ℕ) (w : Window) (S : ℕ → Type 0) → ((q : ℕ) → q < cap → S q → ⊥) → Clears cap w w S
clears-none cap w S n = record { gone = λ q l i. absurd (n q l i); kept = λ q l k. refl }

-- positions in S, then those in T
clears-then : (cap : ℕ) (w u v : Window) (S T R : ℕ → Type 0) → Clears cap w u S → Clears cap u v T → ((q : ℕ) → q < cap → R q → T q ⊎ ((T q → ⊥) × S q))
    → ((q : ℕ) → q < cap → S q → R q) → ((q : ℕ) → q < cap → T q → R q) → Clears cap w v R
clears-then cap w u v S T R s t split from-s from-t = record {
  gone = λ q l r. ⊎_elim (λ i. t.gone q l i) (λ i. t.kept q l i.0 ∙ s.gone q l i.1) (split q l r);
  kept = λ q l n. t.kept q l (λ i. n (from-t q l i)) ∙ s.kept q l (λ i. n (from-s q l i));
}

-- q is one of a, a + 1, .. below e
abbrev pub Between : ℕ → ℕ → ℕ → Type 0
Between a e q = (a ≤ q) × (q < e)

-- ---- whole pages

-- q is at a page from `from` up to `to`, in one of the n blocks from b on
abbrev InBlocks : ℕ → ℕ → ℕ → ℕ → ℕ → Type 0
InBlocks from to b n q = (64 * from ≤ q) × (q < 64 * to) × (4096 * b ≤ q) × (q < 4096 * (b + n))

module _ (cap from to : ℕ) (several : Bool) where
  next-clear : (w : Window) (b : ℕ) → Retiring w → Clears cap w (retire_next w b from to several) (InBlocks from to b 1)
  next-clear w b ok =
      cond-holds (λ (v : Window). Clears cap w v (InBlocks from to b 1)) (cond (several && covers_block from to b) (retire_block_of w b) (retire_in_block w from to b)) w (ltb from (64 * b + 64) && ltb (64 * b) to)
      (λ m. cond-holds (λ (v : Window). Clears cap w v (InBlocks from to b 1)) (retire_block_of w b) (retire_in_block w from to b) (several && covers_block from to b)
      (λ c.
      let k = both (leb from (64 * b)) (leb (64 * b + 64) to) (both several (covers_block from to b) c).1 in
      let low = leb-true from (64 * b) k.0 in
      let high = leb-true (64 * b + 64) to k.1 in
      clears-as cap w (retire_block_of w b) (λ (q : ℕ). q / 64 / 64 ≡ b) (InBlocks from to b 1) (λ q l i. omega (arith, i.2, i.3)) (λ q l e. (omega (arith, e, low), omega (arith, e, high), omega (arith, e), omega (arith, e))) (block-clear cap w b))
      (λ c.
      clears-as cap w (retire_in_block w from to b) (λ (q : ℕ). (q / 64 / 64 ≡ b) × (from ≤ q / 64) × (q / 64 < to)) (InBlocks from to b 1)
      (λ q l i. (omega (arith, i.2, i.3), omega (arith, i.0), omega (arith, i.1))) (λ q l i. (omega (arith, i.1), omega (arith, i.2), omega (arith, i.0), omega (arith, i.0))) (in-block-clear w from to b ok cap)))
      (λ m. clears-none cap w (InBlocks from to b 1) (λ q l i. apart b m q i))
    where
      apart : (b : ℕ) → ltb from (64 * b + 64) && ltb (64 * b) to ≡ false → (q : ℕ) → InBlocks from to b 1 q → ⊥
      apart b m q i = bool (ltb from (64 * b + 64))
          (λ e. let f = ltb-false (64 * b) to (rw e at m) in omega (arith, f, i.1, i.2))
          (λ e. let f = ltb-false from (64 * b + 64) e in omega (arith, f, i.0, i.3))

  blocks-clear : (n b : ℕ) (w : Window) → Retiring w → b + n ≤ blocks_of w → Clears cap w (retire_blocks_of n b w from to several) (InBlocks from to b n)
  unfolding retire_blocks_of
  blocks-clear zero b w ok l = clears-none cap w (InBlocks from to b 0) (λ q k i. omega (arith, i.2, i.3))
  blocks-clear (suc n) b w ok l =
      let v = retire_next w b from to several in
      let k : suc b + n ≤ blocks_of v = rw (ap (λ (y : Limits). y.size) (next-limits w b from to several)) (omega arith) in
      clears-then cap w v (retire_blocks_of n (suc b) v from to several) (InBlocks from to b 1) (InBlocks from to (suc b) n) (InBlocks from to b (suc n))
      (next-clear w b ok) (blocks-clear n (suc b) v (retiring-next from to several w b ok (omega arith)) k)
      (λ q m i. elim (dec_lt q (4096 * (b + 1))) [
        | yes y ↦ inr (λ j. omega (arith, j.2, y), (i.0, i.1, i.2, y))
        | no y ↦ inl (i.0, i.1, omega (arith, y), omega (arith, i.3))
      ])
      (λ q m i. (i.0, i.1, i.2, omega (arith, i.3)))
      (λ q m i. (i.0, i.1, omega (arith, i.2), omega (arith, i.3)))

pub pages-clear : (cap : ℕ) (w : Window) (from to : ℕ) → Retiring w → to ≤ pages_of w → Clears cap w (retire_pages_of w from to) (Between (64 * from) (64 * to))
unfolding retire_pages_of
pages-clear cap w from to ok top =
    let several = not (eqb (from / 64) ((to - 1) / 64)) in
    cond-holds (λ (v : Window). Clears cap w v (Between (64 * from) (64 * to))) (retire_blocks_of (blocks_of w) 0 w from to several) w (ltb from to)
    (λ t.
    clears-as cap w (retire_blocks_of (blocks_of w) 0 w from to several) (InBlocks from to 0 (blocks_of w)) (Between (64 * from) (64 * to))
    (λ q l i. (i.0, i.1, omega arith, omega (arith, i.1, top))) (λ q l i. (i.0, i.1)) (blocks-clear cap from to several (blocks_of w) 0 w ok (omega arith)))
    (λ t. clears-none cap w (Between (64 * from) (64 * to)) (λ q l i. omega (arith, ltb-false from to t, i.0, i.1)))

-- ---- a stretch

module _ (cap : ℕ) (w : Window) (a e : ℕ) (ok : Retiring w) (less : a < e) (top : e ≤ capacity_of w) where
  abbrev from : ℕ
  from = (a + 63) / 64

  abbrev to : ℕ
  to = e / 64

  page-below : a / 64 < pages_of w
  page-below = omega (arith, capacity-pages w.header.window_size)

  inside-clear : a / 64 ≡ (e - 1) / 64 → Clears cap w (inside_page w a e).after (Between a e)
  inside-clear z =
      let P : ℕ → Bool = λ j. within a e (a / 64 * 64 + j) in
      clears-as cap w (inside_page w a e).after (λ (q : ℕ). (q / 64 ≡ a / 64) × (P (q % 64) ≡ true)) (Between a e)
      (λ q l i.
      let y : a / 64 * 64 + q % 64 ≡ q = omega (arith, i.0, i.1) in
      (omega (arith, i.0, i.1), rw (y, le-leb a q i.0, lt-ltb q e i.1)))
      (λ q l i.
      let y : a / 64 * 64 + q % 64 ≡ q = omega (arith, i.0) in
      let t = both (leb a q) (ltb q e) (rw y at i.1) in
      (leb-true a q t.0, ltb-true q e t.1))
      (slots-clear w (a / 64) P ok page-below cap)

  head_clear : Clears cap w (first_page w a).after (Between a (64 * ((a + 63) / 64)))
  head_clear =
      let P : ℕ → Bool = λ j. leb (a % 64) j in
      cond-holds (λ (r : Returned). Clears cap w r.after (Between a (64 * from))) (returned_by w []) (remove_slots_of w (a / 64) P) (eqb (a % 64) 0)
      (λ t. clears-none cap w (Between a (64 * from)) (λ q l i. omega (arith, eqb-true (a % 64) 0 t, i.0, i.1)))
      (λ t.
      clears-as cap w (remove_slots_of w (a / 64) P).after (λ (q : ℕ). (q / 64 ≡ a / 64) × (P (q % 64) ≡ true)) (Between a (64 * from))
      (λ q l i. (omega (arith, i.0, i.1), le-leb (a % 64) (q % 64) (omega (arith, i.0, i.1))))
      (λ q l i. (omega (arith, i.0, leb-true (a % 64) (q % 64) i.1), omega (arith, i.0, eqb-false (a % 64) 0 t)))
      (slots-clear w (a / 64) P ok page-below cap))

  abbrev u : Window
  u = (first_page w a).after

  begun : Retiring (first_page w a).after
  begun = retiring-first w ok a (omega arith)

  begun-size : (first_page w a).after.header.window_size ≡ w.header.window_size
  begun-size = ap (λ (y : Limits). y.size) (first-limits w a)

  tail-clear : Clears cap (first_page w a).after (last_page (first_page w a).after e).after (Between (64 * (e / 64)) e)
  tail-clear =
      let P : ℕ → Bool = λ j. ltb j (e % 64) in
      cond-holds (λ (r : Returned). Clears cap u r.after (Between (64 * to) e)) (returned_by u []) (remove_slots_of u (e / 64) P) (eqb (e % 64) 0)
      (λ t. clears-none cap u (Between (64 * to) e) (λ q l i. omega (arith, eqb-true (e % 64) 0 t, i.0, i.1)))
      (λ t.
      clears-as cap u (remove_slots_of u (e / 64) P).after (λ (q : ℕ). (q / 64 ≡ e / 64) × (P (q % 64) ≡ true)) (Between (64 * to) e)
      (λ q l i. (omega (arith, i.0, i.1), lt-ltb (q % 64) (e % 64) (omega (arith, i.0, i.1))))
      (λ q l i. (omega (arith, i.0), omega (arith, i.0, ltb-true (q % 64) (e % 64) i.1)))
      (slots-clear u (e / 64) P begun (last-below (eqb-false (e % 64) 0 t)) cap))
    where
      last-below : (e % 64 ≡ 0 → ⊥) → e / 64 < pages_of (first_page w a).after
      last-below t = rw begun-size (omega (arith, t, capacity-pages w.header.window_size))

  abbrev v : Window
  v = (last_page u e).after

  ended-size : (last_page (first_page w a).after e).after.header.window_size ≡ w.header.window_size
  ended-size = ap (λ (y : Limits). y.size) (last-limits u e) ∙ begun-size

  -- the partial pages at either end
  abbrev Ends : ℕ → Type 0
  Ends q = Between a (64 * from) q ⊎ Between (64 * to) e q

  ends-clear : (a / 64 ≡ (e - 1) / 64 → ⊥) → Clears cap w (last_page (first_page w a).after e).after Ends
  ends-clear far =
      clears-then cap w u v (Between a (64 * from)) (Between (64 * to) e) Ends head_clear tail-clear
      (λ q l r. ⊎_elim (λ i. inr (λ j. omega (arith, far, less, i.0, i.1, j.0, j.1), i)) (λ i. inl i) r)
      (λ q l i. inl i)
      (λ q l i. inr i)

  across-clear : (a / 64 ≡ (e - 1) / 64 → ⊥) → Clears cap w (retire_pages_of (last_page (first_page w a).after e).after ((a + 63) / 64) (e / 64)) (Between a e)
  across-clear far =
      let ended = retiring-last u begun e (rw begun-size top) in
      clears-then cap w v (retire_pages_of v from to) Ends (Between (64 * from) (64 * to)) (Between a e) (ends-clear far)
      (pages-clear cap v from to ended (rw ended-size (omega (arith, capacity-pages w.header.window_size))))
      (λ q l i. elim (dec_lt q (64 * from)) [
        | yes y ↦ inr (λ j. omega (arith, j.0, y), inl (i.0, y))
        | no y ↦ elim (dec_lt q (64 * to)) [
          | yes z ↦ inl (omega (arith, y), z)
          | no z ↦ inr (λ j. omega (arith, j.1, z), inr (omega (arith, z), i.1))
        ]
      ])
      (λ q l r. ⊎_elim (λ i. (i.0, omega (arith, far, less, i.1))) (λ i. (omega (arith, far, less, i.0), i.1)) r)
      (λ q l i. (omega (arith, i.0), omega (arith, i.1)))

  pub stretch-clear : Clears cap w (retire_stretch w a e).after (Between a e)
  unfolding retire_stretch
  stretch-clear =
      cond-holds (λ (r : Returned). Clears cap w r.after (Between a e)) (inside_page w a e) (returned_by (retire_pages_of v from to) ((first_page w a).out ++ (last_page u e).out)) (eqb (a / 64) ((e - 1) / 64))
      (λ t. inside-clear (eqb-true (a / 64) ((e - 1) / 64) t))
      (λ t. across-clear (eqb-false (a / 64) ((e - 1) / 64) t))

-- ---- a range

within-true : (a e q : ℕ) → within a e q ≡ true → Between a e q
within-true a e q t = let i = both (leb a q) (ltb q e) t in (leb-true a q i.0, ltb-true q e i.1)

module _ (cap start count q : ℕ) where
  covers-true : covers cap start count q ≡ true → Between start (start + count) q ⊎ Between start (start + count) (q + cap)
  covers-true t =
      bool (within start (start + count) q) (λ e. inl (within-true start (start + count) q e)) (λ e. inr (within-true start (start + count) (q + cap) (rw e at t)))

  true-covers : Between start (start + count) q ⊎ Between start (start + count) (q + cap) → covers cap start count q ≡ true
  true-covers =
      ⊎_elim
      (λ i. rw (le-leb start q i.0, lt-ltb q (start + count) i.1))
      (λ i. bool (within start (start + count) q) (λ e. rw e) (λ e. rw (e, le-leb start (q + cap) i.0, lt-ltb (q + cap) (start + count) i.1)))

module _ (w : Window) (start count : ℕ) (ok : Retiring w) (low : start < capacity_of w) (some : 0 < count) (few : count ≤ capacity_of w) where
  abbrev cap : ℕ
  cap = capacity_of w

  abbrev Covered : ℕ → Type 0
  Covered q = covers cap start count q ≡ true

  abbrev first : Window
  first = (retire_stretch w start cap).after

  first-size : (retire_stretch w start (capacity_of w)).after.header.window_size ≡ w.header.window_size
  first-size = ap (λ (y : Limits). y.size) (stretch-limits w start cap)

  one-clear : start + count ≤ capacity_of w → Clears (capacity_of w) w (retire_stretch w start (start + count)).after Covered
  one-clear l =
      clears-as cap w (retire_stretch w start (start + count)).after (Between start (start + count)) Covered
      (λ q k t. ⊎_elim (λ i. i) (λ i. absurd (omega (arith, i.1, l))) (covers-true cap start count q t))
      (λ q k i. true-covers cap start count q (inl i))
      (stretch-clear cap w start (start + count) ok (omega arith) l)

  two-clear : capacity_of w < start + count → Clears (capacity_of w) w (retire_stretch (retire_stretch w start (capacity_of w)).after 0 (start + count - capacity_of w)).after Covered
  two-clear h =
      let rest = start + count - cap in
      clears-then cap w first (retire_stretch first 0 rest).after (Between start cap) (Between 0 rest) Covered
      (stretch-clear cap w start cap ok low (omega arith))
      (stretch-clear cap first 0 rest (retiring-stretch w start cap ok low (omega arith)) (omega arith) (rw first-size (omega arith)))
      (λ q k t. elim (dec_lt q rest) [
        | yes y ↦ inl (omega arith, y)
        | no y ↦ inr (λ j. omega (arith, j.1, y), ⊎_elim (λ i. (i.0, k)) (λ i. absurd (omega (arith, i.1, y))) (covers-true cap start count q t))
      ])
      (λ q k i. true-covers cap start count q (inl (i.0, omega (arith, i.1))))
      (λ q k i. true-covers cap start count q (inr (omega arith, omega (arith, i.1))))

  pub range_clear : Clears (capacity_of w) w (retire_range_of w start count).after (λ (q : ℕ). covers (capacity_of w) start count q ≡ true)
  unfolding retire_range_of
  range_clear =
      let second = retire_stretch first 0 (start + count - cap) in
      cond-holds (λ (r : Returned). Clears cap w r.after Covered) (retire_stretch w start (start + count)) (returned_by second.after ((retire_stretch w start cap).out ++ second.out)) (leb (start + count) cap)
      (λ t. one-clear (leb-true (start + count) cap t))
      (λ t. two-clear (leb-false (start + count) cap t))
