-- A stretch and a range retired, and remove_range: what `sweep`, `sweep_range` and `step` do at the positions. Assumes nothing.
use mathlib.Core.Path.{◌≡◌, refl, ap, subst, ◌∙◌}
use mathlib.Core.Bool.{Bool, true, cond}
use mathlib.Core.List.{[], ◌++◌}
use Prim.Native.Nat.{ℕ, ◌+◌, ◌-◌, ◌*◌, ◌/◌, ◌%◌, ◌≤◌, ◌<◌}
use native.Mathlib.Omega.{arith}
use lib.Dec.{leb, ltb, eqb}
use borrow.Author.Tests.{eqb-true, eqb-false, leb-true, leb-false, le-leb, lt-leb, lt-ltb, le-ltb}
use Rattle.words.proofs.CaseLaws.{bool}
use Rattle.window.specs.Memory.{position}
use Rattle.window.proofs.MemoryLaws.{capacity-pages, position-lt}
use Rattle.model.specs.Calls.{remove_range}
use Rattle.model.specs.Table.{range_count_of, within}
use Rattle.model.specs.Window.{Window, size_of, capacity_of, pages_of, live_at, retired_at}
use Rattle.model.specs.Positions.{Positions, positions, Drained, drain, wipe, moved, Swept, swept, sweep, sweep_range, retired_count, does}
use Rattle.model.specs.Steps.{Returned, returned_by, remove_slots_of, retire_pages_of, retire_stretch, retire_range_of, release, range_step, window_does}
use Rattle.model.proofs.DrainLaws.{drain-end}
use Rattle.model.proofs.SweepLaws.{within-yes, within-below, within-above}
use Rattle.model.proofs.KeepLaws.{count-some}
use Rattle.laws_soundness.specs.Change.{Proper}
use Rattle.laws_soundness.proofs.PageLaws.{cond-holds}
use Rattle.laws_soundness.proofs.LimitLaws.{first-limits, stretch-limits}
use Rattle.laws_soundness.proofs.VisitLaws.{pages-same}
use Rattle.laws_soundness.specs.Retire.{Retiring, inside_page, first_page, last_page}
use Rattle.laws_soundness.proofs.RetireLaws.{proper-retiring}
use Rattle.laws_soundness.proofs.RetireRangeLaws.{same_size, retiring-first, retiring-last, retiring-stretch}
use Rattle.laws_soundness.proofs.RetireReleaseLaws.{ranged, ranged-limits, retiring-ranged, count-few}
use Rattle.laws_refinement.specs.Seen.{positions_of, Follows}
use Rattle.laws_refinement.proofs.MarkLaws.{proper-order}
use Rattle.laws_refinement.proofs.SlotLaws.{Empties, nothing-empties, slots-empties}
use Rattle.laws_refinement.proofs.CountLaws.{all-counts}
use Rattle.laws_refinement.proofs.VisitLaws.{ReleasedAs, as_seen, retiring-order, release-as}
use Rattle.laws_refinement.proofs.RetireLaws.{pages-seen}

-- ---- the parts of a stretch

module _ (w : Window) (ok : Retiring w) where
  inside-empties : (a e : ℕ) → a < e → a / 64 ≡ (e - 1) / 64 → Empties (e - a) a (positions_of w) (inside_page w a e)
  inside-empties a e l same =
      slots-empties w.header.n w (a / 64) (λ (j : ℕ). within a e (a / 64 * 64 + j)) (a % 64) (e - a) a ((retiring-order w ok).places (a / 64)) (omega arith) (omega arith)
      (λ i k. within-below a e (a / 64 * 64 + i) (omega arith))
      (λ i k m. within-yes a e (a / 64 * 64 + i) (omega arith) (omega arith))
      (λ i k m. within-above a e (a / 64 * 64 + i) (omega arith))

  -- no position: the stretch begins, or ends, with a whole page
  none-empties : (m q : ℕ) → m ≡ 0 → Empties m q (positions_of w) (returned_by w [])
  none-empties m q z = nothing-empties m q w (ap (λ (x : ℕ). drain x q 64 (live_at w)) z ∙ drain-end q 64 (live_at w))

  first-empties : (a : ℕ) → Empties ((a + 63) / 64 * 64 - a) a (positions_of w) (first_page w a)
  first-empties a =
      cond-holds (Empties ((a + 63) / 64 * 64 - a) a (positions_of w)) (returned_by w []) (remove_slots_of w (a / 64) (λ (j : ℕ). leb (a % 64) j)) (eqb (a % 64) 0)
      (λ t. none-empties ((a + 63) / 64 * 64 - a) a (omega (arith, eqb-true (a % 64) 0 t)))
      (λ t.
      let some = eqb-false (a % 64) 0 t in
      slots-empties w.header.n w (a / 64) (λ (j : ℕ). leb (a % 64) j) (a % 64) ((a + 63) / 64 * 64 - a) a ((retiring-order w ok).places (a / 64)) (omega arith) (omega (arith, some))
      (λ i k. lt-leb (a % 64) i k)
      (λ i k m. le-leb (a % 64) i k)
      (λ i k m. absurd (omega (arith, some))))

  last-empties : (e : ℕ) → Empties (e - e / 64 * 64) (e / 64 * 64) (positions_of w) (last_page w e)
  last-empties e =
      cond-holds (Empties (e - e / 64 * 64) (e / 64 * 64) (positions_of w)) (returned_by w []) (remove_slots_of w (e / 64) (λ (j : ℕ). ltb j (e % 64))) (eqb (e % 64) 0)
      (λ t. none-empties (e - e / 64 * 64) (e / 64 * 64) (omega (arith, eqb-true (e % 64) 0 t)))
      (λ t. slots-empties w.header.n w (e / 64) (λ (j : ℕ). ltb j (e % 64)) 0 (e - e / 64 * 64) (e / 64 * 64) ((retiring-order w ok).places (e / 64)) (omega arith) (omega arith)
      (λ i k. absurd (omega arith))
      (λ i k m. lt-ltb i (e % 64) (omega arith))
      (λ i k m. le-ltb i (e % 64) (omega arith)))

-- ---- a stretch

-- what is left and what comes out, cursor and base kept
record SweptAs (s : Swept) (cursor base : ℕ) (r : Returned) : Type 0 where
  out : r.out ≡ s.out
  after : positions_of r.after ≡ positions s.live s.retired cursor base

module _ (w : Window) (ok : Retiring w) (a e : ℕ) (l : a < e) (k : e ≤ capacity_of w) where
  abbrev head : Returned
  head = first_page w a

  abbrev tail : Returned
  tail = last_page head.after e

  abbrev head_at : Drained
  head_at = drain ((a + 63) / 64 * 64 - a) a 64 (live_at w)

  abbrev tail_at : Drained
  tail_at = drain (e - e / 64 * 64) (e / 64 * 64) 64 head_at.left

  first : Empties ((a + 63) / 64 * 64 - a) a (positions_of w) head
  first = first-empties w ok a

  good : Retiring head.after
  good = retiring-first w ok a (omega arith)

  last : Empties (e - e / 64 * 64) (e / 64 * 64) (positions head_at.left (retired_at w) w.header.release_cursor w.header.base) tail
  last = subst (λ (x : Positions). Empties (e - e / 64 * 64) (e / 64 * 64) x tail) first.after (last-empties head.after good e)

  several-as : SweptAs
      (swept (wipe ((a + 63) / 64 * 64) (e / 64 * 64) tail_at.left) (moved ((a + 63) / 64 * 64) (e / 64 * 64) tail_at.left (retired_at w)) (head_at.out ++ tail_at.out))
      w.header.release_cursor w.header.base
      (returned_by (retire_pages_of tail.after ((a + 63) / 64) (e / 64)) (head.out ++ tail.out))
  several-as =
      let m : e ≤ capacity_of head.after = rw (same_size w head.after (first-limits w a)) k in
      record {
        out = λ i. first.out i ++ last.out i;
        after = pages-seen tail.after ((a + 63) / 64) (e / 64) (retiring-last head.after good e m)
            ∙ ap (λ (x : Positions). positions (wipe ((a + 63) / 64 * 64) (e / 64 * 64) x.live) (moved ((a + 63) / 64 * 64) (e / 64 * 64) x.live x.retired) x.cursor x.base) last.after;
      }

  stretch-as : SweptAs (sweep a e (live_at w) (retired_at w)) w.header.release_cursor w.header.base (retire_stretch w a e)
  unfolding sweep retire_stretch
  stretch-as =
      bool (eqb (a / 64) ((e - 1) / 64))
      (λ t. let i = inside-empties w ok a e l (eqb-true (a / 64) ((e - 1) / 64) t) in rw t (record { out = i.out; after = i.after }))
      (λ t. rw t several-as)

-- ---- a range

module _ (w : Window) (ok : Retiring w) (start count : ℕ) (l : start < capacity_of w) (some : 0 < count) (few : count ≤ capacity_of w) where
  range-as : SweptAs (sweep_range (capacity_of w) start count (live_at w) (retired_at w)) w.header.release_cursor w.header.base (retire_range_of w start count)
  unfolding sweep_range retire_range_of
  range-as =
      bool (leb (start + count) (capacity_of w))
      (λ t. rw t (stretch-as w ok start (start + count) (omega arith) (leb-true (start + count) (capacity_of w) t)))
      (λ t.
      let u = retire_stretch w start (capacity_of w) in
      let e = start + count - capacity_of w in
      let v = retire_stretch u.after 0 e in
      let first = stretch-as w ok start (capacity_of w) l (omega arith) in
      let k : e ≤ capacity_of u.after = rw (same_size w u.after (stretch-limits w start (capacity_of w))) (omega arith) in
      let second = subst (λ (x : Positions). SweptAs (sweep 0 e x.live x.retired) x.cursor x.base v) first.after
      (stretch-as u.after (retiring-stretch w start (capacity_of w) ok l (omega arith)) 0 e (omega (arith, leb-false (start + count) (capacity_of w) t)) k) in
      rw t (record { out = λ i. first.out i ++ second.out i; after = second.after }))

-- ---- remove_range

module _ (w : Window) (ok : Proper w) (start count : ℕ) (l : start < capacity_of w) (some : 0 < count) (few : count ≤ capacity_of w) where
  abbrev t : Returned
  t = retire_range_of w start count

  abbrev s : Swept
  s = sweep_range (capacity_of w) start count (live_at w) (retired_at w)

  -- the window from which values are released
  abbrev v : Window
  v = ranged w start count

  all-swept : SweptAs s w.header.release_cursor w.header.base t
  all-swept = range-as w (proper-retiring w ok) start count l some few

  -- "If nothing was retired before, release_cursor becomes the page of first."
  abbrev cursor : ℕ
  cursor = cond (ltb 0 (retired_count (capacity_of w) (positions_of w))) w.header.release_cursor (start / 64)

  counts : retired_count (capacity_of w) (positions_of w) ≡ w.header.retired_held
  counts = all-counts w.header.n (pages_of w) w (proper-order w ok) (capacity_of w) (capacity-pages w.header.window_size)

  swept-seen : positions_of v ≡ positions s.live s.retired cursor w.header.base
  swept-seen =
      bool (eqb w.header.retired_held 0)
      (λ e. rw (e, counts, le-ltb 0 w.header.retired_held (omega (arith, eqb-true w.header.retired_held 0 e))) (ap (λ (x : Positions). positions x.live x.retired (start / 64) x.base) all-swept.after))
      (λ e. rw (e, counts, lt-ltb 0 w.header.retired_held (omega (arith, eqb-false w.header.retired_held 0 e))) all-swept.after)

  released : ReleasedAs (pages_of w) 256 256 (positions s.live s.retired cursor w.header.base) (release 256 v)
  released =
      as_seen (pages_of v) (pages_of w) 256 256 (positions_of v) (positions s.live s.retired cursor w.header.base) (release 256 v) (pages-same w v (ranged-limits w start count)) swept-seen
      (release-as v (retiring-ranged w start count ok l some few) 256)

pub range-follows : (w : Window) → Proper w → (a b : ℕ) (listed : Bool) → leb (range_count_of a b) (size_of w) ≡ true → Follows w (remove_range a b listed)
unfolding does window_does range_step
range-follows w ok a b listed e =
    let start = position (size_of w) a in
    let count = range_count_of a b in
    let l = position-lt (size_of w) a in
    let few = count-few w ok a b e in
    let r = released w ok start count l (count-some a b) few in
    let t = all-swept w ok start count l (count-some a b) few in
    record { after = r.after; answer = refl; returned = λ i. t.out i ++ r.out i }
