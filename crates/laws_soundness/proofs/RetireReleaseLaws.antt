-- A release that follows retiring is the release of the window with its block marks dropped, which is proper; and the window from
-- which remove_range releases. Assumes nothing.
use mathlib.Core.Path.{◌≡◌, refl, sym, ap, ◌∙◌}
use mathlib.Core.Bool.{true, false, cond, ◌&&◌}
use mathlib.Core.List.{[]}
use Prim.Native.Nat.{ℕ, zero, suc, ◌/◌, ◌≤◌, ◌<◌}
use native.Mathlib.Omega.{arith}
use lib.Dec.{leb, ltb, eqb}
use borrow.Author.Tests.{eqb-true, leb-true, ltb-true}
use Rattle.words.proofs.CaseLaws.{bool, both}
use Rattle.words.proofs.FirstLaws.{round-held}
use Rattle.window.proofs.MemoryLaws.{size-le, capacity-pages}
use Rattle.model.specs.Table.{range_count_of}
use Rattle.model.specs.Window.{Window, size_of, capacity_of, pages_of, is_retired}
use Rattle.model.specs.Pages.{holds_value}
use Rattle.model.specs.Steps.{with_header, set_cursor, drop_block_marks, next_retired_of, release_of, release_units, release, retire_range_of}
use Rattle.model.specs.Sound.{retired_in}
use Rattle.laws_soundness.specs.Change.{Proper, SameLimits}
use Rattle.laws_soundness.proofs.SumLaws.{sum-part}
use Rattle.laws_soundness.proofs.PageLaws.{cond-holds, some-counted, retired-counts}
use Rattle.laws_soundness.proofs.LimitLaws.{limits-either, range-limits}
use Rattle.laws_soundness.proofs.ReleaseLaws.{drop-same, proper-cursor}
use Rattle.laws_soundness.specs.Retire.{with_block_marks, Retiring}
use Rattle.laws_soundness.proofs.RetireLaws.{proper-retiring, retiring-from, retiring-drop}
use Rattle.laws_soundness.proofs.RetireRangeLaws.{same_size, retiring-range}
use Rattle.laws_soundness.proofs.VisitLaws.{proper-release}

-- the cursor moved to another page
pub retiring-cursor : (w : Window) (g : ℕ) → Retiring w → g < pages_of w → Retiring (with_header w (set_cursor w.header g))
retiring-cursor w g ok l = record {
  marks = ok.marks;
  proper = proper-cursor (with_block_marks w ok.marks) g ok.proper l;
  status = ok.status;
  block_bits = ok.block_bits;
}

-- while nothing is retired there is no page to release
module _ (w : Window) (ok : Retiring w) (none : w.header.retired_held ≡ 0) where
  no-next : ltb (next_retired_of w) (pages_of w) ≡ false
  unfolding next_retired_of
  no-next =
      bool (ltb (next_retired_of w) (pages_of w))
      (λ t.
      let g = next_retired_of w in
      let l : g < pages_of w = ltb-true g (pages_of w) t in
      let s = ok.proper.sound in
      let held = both (is_retired w g) (holds_value (w.pages g)) (round-held (λ (h : ℕ). is_retired w h && holds_value (w.pages h)) (pages_of w) w.header.release_cursor (omega (arith, s.cursor)) l) in
      absurd (omega (
        arith,
        none,
        (retiring-from w ok).held,
        sum-part (pages_of w) (retired_in w) g l,
        (retired-counts w g held.0).1,
        some-counted (w.pages g) (s.page g l).occupied_fits held.1,
      )))
      (λ t. t)

  release-none : (f b : ℕ) → release_units f b w ≡ release_of (drop_block_marks w) [] 0
  unfolding release_units
  release-none zero b = refl
  release-none (suc f) zero = refl
  release-none (suc f) (suc b) = rw (no-next, release_units)

module _ (w : Window) (ok : Retiring w) where
  dropped-none : w.header.retired_held ≡ 0 → (drop_block_marks w).header.retired_held ≡ 0
  dropped-none z = bool (eqb w.header.retired_held 0) (λ e. rw e z) (λ e. rw e z)

  pub release-drop : (f b : ℕ) → release_units f b w ≡ release_units f b (drop_block_marks w)
  release-drop f b =
      bool (eqb w.header.retired_held 0)
      (λ e.
      let z = eqb-true w.header.retired_held 0 e in
      let v = drop_block_marks w in
      let p = retiring-drop w ok in
      release-none w ok z f b ∙ ap (λ (u : Window). release_of u [] 0) (sym (drop-same v p.sound))
      ∙ sym (release-none v (proper-retiring v p) (dropped-none z) f b))
      (λ e. rw e)

  pub retiring-release : (b : ℕ) → Proper (release b w).after
  retiring-release b = rw (release-drop b b) (proper-release b (drop_block_marks w) (retiring-drop w ok))

-- ---- the window from which remove_range releases

module _ (w : Window) (start count : ℕ) where
  abbrev pub ranged : Window
  ranged =
      let v = (retire_range_of w start count).after in
      cond (eqb w.header.retired_held 0) (with_header v (set_cursor v.header (start / 64))) v

  pub ranged-limits : SameLimits w ranged
  ranged-limits =
      let v = (retire_range_of w start count).after in
      limits-either w (with_header v (set_cursor v.header (start / 64))) v (eqb w.header.retired_held 0) (range-limits w start count) (range-limits w start count)

  pub retiring-ranged : Proper w → start < capacity_of w → 0 < count → count ≤ capacity_of w → Retiring ranged
  retiring-ranged ok l some few =
      let v = (retire_range_of w start count).after in
      let r = retiring-range w start count (proper-retiring w ok) l some few in
      let k : start / 64 < pages_of v = rw (same_size w v (range-limits w start count)) (omega (arith, capacity-pages w.header.window_size)) in
      cond-holds Retiring (with_header v (set_cursor v.header (start / 64))) v (eqb w.header.retired_held 0) (λ e. retiring-cursor v (start / 64) r k) (λ e. r)

-- a range that is not refused goes round the capacity once at most
pub count-few : (w : Window) → Proper w → (a b : ℕ) → leb (range_count_of a b) (size_of w) ≡ true → range_count_of a b ≤ capacity_of w
count-few w ok a b e = omega (arith, leb-true (range_count_of a b) (size_of w) e, size-le (size_of w) ok.sound.within.size_high)
