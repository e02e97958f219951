-- All pages released in their order, and clear_bounded: what `step` does at the positions. Assumes nothing.
use mathlib.Core.Path.{◌≡◌, refl, sym, ap, subst, ◌∙◌}
use mathlib.Core.Bool.{Bool, false}
use mathlib.Core.Option.{none}
use mathlib.Core.List.{[], ◌++◌}
use Prim.Native.Nat.{ℕ, zero, suc, ◌+◌, ◌-◌, ◌*◌, ◌/◌, ◌≤◌, ◌<◌}
use native.Mathlib.Omega.{arith}
use lib.ListN.{length}
use Rattle.words.proofs.CaseLaws.{bool}
use Rattle.window.proofs.MemoryLaws.{capacity-pages}
use Rattle.model.specs.Calls.{clear_bounded}
use Rattle.model.specs.Table.{fresh}
use Rattle.model.specs.Window.{Window, capacity_of, pages_of, live_at, retired_at}
use Rattle.model.specs.Pages.{holds_value}
use Rattle.model.specs.Positions.{Positions, positions, Drained, drained, drain, moved, does}
use Rattle.model.specs.Steps.{Returned, returned_by, release_page_of, release_pages_of, retire_all_of, clear_bounded_step, window_does}
use Rattle.model.proofs.DrainLaws.{drain-end, drain-spent, drain_then, drain-append}
use Rattle.laws_soundness.specs.Change.{Proper}
use Rattle.laws_soundness.proofs.PageLaws.{holds-none}
use Rattle.laws_soundness.proofs.LimitLaws.{release-page-limits, all-limits}
use Rattle.laws_soundness.proofs.ReleaseLaws.{proper-release-page}
use Rattle.laws_soundness.proofs.RetireRangeLaws.{proper-all, all-len}
use Rattle.laws_soundness.proofs.VisitLaws.{pages-same, pages-end, pages-spent, pages_past, pages-next, page-len, all-retired}
use Rattle.laws_refinement.specs.Seen.{positions_of, Follows}
use Rattle.laws_refinement.proofs.MarkLaws.{empty-retired, proper-order}
use Rattle.laws_refinement.proofs.ReleaseLaws.{nothing-drained, release-page}
use Rattle.laws_refinement.proofs.ClearLaws.{all_seen}

-- what is left and what comes out of m positions from q upwards, where the positions were x
record DrainedAs (m q k : ℕ) (x : Positions) (r : Returned) : Type 0 where
  out : r.out ≡ (drain m q k x.retired).out
  after : positions_of r.after ≡ positions x.live (drain m q k x.retired).left x.cursor x.base

-- by what the drain is
as-drained : (m q k : ℕ) (x : Positions) (d : Drained) (r : Returned) → drain m q k x.retired ≡ d → r.out ≡ d.out
    → positions_of r.after ≡ positions x.live d.left x.cursor x.base → DrainedAs m q k x r
as-drained m q k x d r e out after = record {
  out = out ∙ ap (λ (z : Drained). z.out) (sym e);
  after = after ∙ ap (λ (z : Drained). positions x.live z.left x.cursor x.base) (sym e);
}

-- the 64 positions of a page, and then n pages more
module _ (n g k : ℕ) (x : Positions) (m q : ℕ) (count : m ≡ 64 * suc n) (from : q ≡ 64 * g) where
  abbrev d : Drained
  d = drain 64 (64 * g) k x.retired

  in_two : drain m q k x.retired ≡ drain_then (64 * n) (64 * suc g) k d
  in_two = ap (λ (y : ℕ). drain m y k x.retired) from ∙ drain-append 64 (64 * n) (64 * g) k x.retired m (64 * suc g) (omega arith) (omega arith)

  as-next : (p r : Returned) → p.out ≡ d.out → DrainedAs (64 * n) (64 * suc g) (k - length p.out) (positions x.live d.left x.cursor x.base) r
      → DrainedAs m q k x (returned_by r.after (p.out ++ r.out))
  as-next p r e s =
      let u = rw e at s in
      as-drained m q k x (drain_then (64 * n) (64 * suc g) k d) (returned_by r.after (p.out ++ r.out)) in_two (λ i. e i ++ u.out i) u.after

  as-past : (r : Returned) → d ≡ drained x.retired [] → DrainedAs (64 * n) (64 * suc g) k x r → DrainedAs m q k x r
  as-past r e s =
      let z : k - 0 ≡ k = omega arith in
      let two : drain m q k x.retired ≡ drain (64 * n) (64 * suc g) k x.retired =
      in_two ∙ ap (drain_then (64 * n) (64 * suc g) k) e ∙ ap (λ (y : ℕ). drain (64 * n) (64 * suc g) y x.retired) z in
      as-drained m q k x (drain (64 * n) (64 * suc g) k x.retired) r two s.out s.after

-- a page without a value
none_here : (w : Window) (ok : Proper w) (g : ℕ) → holds_value (w.pages g) ≡ false → (q : ℕ) → q / 64 ≡ g → retired_at w q ≡ none
none_here w ok g h q e = empty-retired w.header.n w q ((proper-order w ok).places (q / 64)) (rw e (holds-none (w.pages g) h))

pages-as : (n g k : ℕ) (w : Window) (m q : ℕ) → m ≡ 64 * n → q ≡ 64 * g → Proper w → w.header.len ≡ 0 → g + n ≤ pages_of w
    → DrainedAs m q k (positions_of w) (release_pages_of n g k w)
pages-as zero g k w m q a b ok len l =
    let z : m ≡ 0 = omega arith in
    rw (pages-end w g k) (as-drained m q k (positions_of w) (drained (retired_at w) []) (returned_by w []) (ap (λ (y : ℕ). drain y q k (retired_at w)) z ∙ drain-end q k (retired_at w)) refl refl)
pages-as (suc n) g zero w m q a b ok len l =
    rw (pages-spent w g (suc n)) (as-drained m q 0 (positions_of w) (drained (retired_at w) []) (returned_by w []) (drain-spent m q (retired_at w)) refl refl)
pages-as (suc n) g (suc k) w m q a b ok len l =
    let below : g < pages_of w = omega arith in
    bool (holds_value (w.pages g))
    (λ h.
    let p = release_page_of w g (suc k) in
    let left = suc k - length p.out in
    let r = all-retired w ok.sound len g below h in
    let page = release-page w.header.n (pages_of w) w (proper-order w ok) g below r (suc k) in
    let same = pages-same w p.after (release-page-limits w g (suc k)) in
    let rest = pages-as n (suc g) left p.after (64 * n) (64 * suc g) refl refl (proper-release-page w g (suc k) ok below r) (page-len w g (suc k) ∙ len) (omega (arith, same)) in
    rw (pages-next w g n k h)
    (as-next n g (suc k) (positions_of w) m q a b p (release_pages_of n (suc g) left p.after) page.out
    (subst (λ (x : Positions). DrainedAs (64 * n) (64 * suc g) left x (release_pages_of n (suc g) left p.after)) page.after rest)))
    (λ h. rw (pages_past w g n k h)
    (as-past n g (suc k) (positions_of w) m q a b (release_pages_of n (suc g) (suc k) w)
    (nothing-drained 64 (64 * g) (suc k) (retired_at w) (λ y c e. none_here w ok g h y (omega arith)))
    (pages-as n (suc g) (suc k) w (64 * n) (64 * suc g) refl refl ok len (omega arith))))

-- ---- clear_bounded

module _ (w : Window) (ok : Proper w) (n : ℕ) where
  all-as : DrainedAs (capacity_of w) 0 n (positions fresh (moved 0 (capacity_of w) (live_at w) (retired_at w)) w.header.release_cursor w.header.base) (release_pages_of (pages_of w) 0 n (retire_all_of w))
  all-as =
      subst (λ (x : Positions). DrainedAs (capacity_of w) 0 n x (release_pages_of (pages_of w) 0 n (retire_all_of w))) (all_seen w ok)
      (pages-as (pages_of w) 0 n (retire_all_of w) (capacity_of w) 0 (capacity-pages w.header.window_size) refl (proper-all w ok) (all-len w) (omega (arith, pages-same w (retire_all_of w) (all-limits w))))

  pub clear-bounded-follows : (listed : Bool) → Follows w (clear_bounded n listed)
  unfolding does window_does clear_bounded_step
  clear-bounded-follows listed = record {
    after = all-as.after;
    answer = refl;
    returned = all-as.out;
  }
