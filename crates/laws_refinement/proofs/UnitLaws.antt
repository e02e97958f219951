-- What a release costs, and how many values a clear returns. Document 01: "Each page inspected and each value released costs one
-- unit"; "clear retires everything and releases with 256". Assumes nothing.
use mathlib.Core.Path.{◌≡◌, sym, ap, ◌∙◌}
use mathlib.Core.Bool.{true, cond, ◌&&◌}
use Prim.Native.Nat.{ℕ, ◌+◌, ◌*◌, ◌≤◌}
use native.Mathlib.Omega.{arith}
use lib.Dec.{eqb}
use lib.ListN.{length}
use borrow.Author.Tests.{le-leb, eqb-true, eqb-false}
use Rattle.words.proofs.CaseLaws.{bool}
use Rattle.model.specs.Calls.{release_retired, clear, released}
use Rattle.model.specs.Demand3.{one}
use Rattle.model.specs.Window.{Window, capacity_of, pages_of, is_retired, live_at, retired_at}
use Rattle.model.specs.Pages.{holds_value}
use Rattle.model.specs.Positions.{Positions, page_holds, moved, release as release_at, does}
use Rattle.model.specs.Steps.{Release, release, release_step, window_step, window_does}
use Rattle.model.proofs.UnitLaws.{pages_held, pairs_held, release-few, release-costs}
use Rattle.laws_soundness.specs.Change.{Proper}
use Rattle.laws_soundness.proofs.SumLaws.{sum_same}
use Rattle.laws_soundness.proofs.LimitLaws.{release-limits}
use Rattle.laws_soundness.proofs.VisitLaws.{pages-same, proper-release}
use Rattle.laws_soundness.proofs.RetireLaws.{proper-retiring}
use Rattle.laws_refinement.specs.Seen.{positions_of, retired_pages_of}
use Rattle.laws_refinement.proofs.MarkLaws.{proper-order}
use Rattle.laws_refinement.proofs.CountLaws.{page-holds, all-counts}
use Rattle.laws_refinement.proofs.VisitLaws.{ReleasedAs, release-as}
use Rattle.laws_refinement.proofs.CallLaws.{call-follows}

module _ (w : Window) (ok : Proper w) where
  retired-pages : pages_held (pages_of w) (retired_at w) ≡ retired_pages_of w
  retired-pages =
      sum_same (pages_of w) (λ (g : ℕ). one (page_holds (retired_at w) g)) (λ (g : ℕ). one (is_retired w g && holds_value (w.pages g)))
      (λ g l. ap one (page-holds w.header.n w g ((proper-order w ok).places g)))

  module _ (b : ℕ) where
    abbrev r : Release
    r = release b w

    released-as : ReleasedAs (pages_of w) b b (positions_of w) r
    released-as = release-as w (proper-retiring w ok) b

    -- what is held afterwards
    held_after : r.after.header.retired_held ≡ pairs_held (pages_of w) (release_at (pages_of w) b b (retired_at w) w.header.release_cursor).retired
    held_after =
        let v = r.after in
        let same : pages_of v ≡ pages_of w = pages-same w v (release-limits w b) in
        sym (all-counts v.header.n (pages_of v) v (proper-order v (proper-release b w ok)) (64 * pages_of w) (ap (λ (n : ℕ). 64 * n) (sym same)))
        ∙ ap (λ (x : Positions). pairs_held (pages_of w) x.retired) released-as.after

    -- with values held afterwards the whole budget; with none, each value released and each retired page that held one
    units-are : r.units ≡ cond (eqb r.after.header.retired_held 0) (length r.out + retired_pages_of w) b
    units-are =
        let t = release-costs (pages_of w) b b (retired_at w) w.header.release_cursor (omega (arith, ok.sound.cursor)) (omega arith) in
        let out = ap length released-as.out in
        bool (eqb r.after.header.retired_held 0)
        (λ e. rw e (omega (arith, released-as.units, out, retired-pages, t.all (sym held_after ∙ eqb-true _ 0 e))))
        (λ e. rw e (released-as.units ∙ t.spent (omega (arith, held_after, eqb-false r.after.header.retired_held 0 e))))

  -- what release_retired answers
  pub release-answers : (b : ℕ) → b ≤ 256
      → let e = window_step w (release_retired b true) in
      e.answer ≡ released (length e.returned) (cond (eqb e.after.header.retired_held 0) (length e.returned + retired_pages_of w) b)
  unfolding window_does release_step
  release-answers b l = rw (le-leb b 256 l) (ap (released (length (release b w).out)) (units-are b))

  -- a clear returns no more values than a visit has units
  pub clear-few : length (window_step w (clear true)).returned ≤ 256
  unfolding does
  clear-few =
      let t = moved 0 (capacity_of w) (live_at w) (retired_at w) in
      omega (arith, ap length (call-follows w ok (clear true)).returned, release-few (pages_of w) 256 256 t w.header.release_cursor)
