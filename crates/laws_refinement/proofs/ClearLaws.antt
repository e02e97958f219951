-- Everything retired, and released: clear and clear_bounded do to a window what `step` does at its positions. Assumes nothing.
use mathlib.Core.Path.{◌≡◌, refl, sym, ap, ◌∙◌}
use mathlib.Core.Bool.{Bool, ◌||◌, or-true}
use mathlib.Core.Option.{none}
use mathlib.Core.Logic.{inl, inr}
use Prim.Native.Nat.{ℕ, ◌*◌, ◌/◌, ◌≤◌}
use native.Mathlib.Omega.{arith}
use native.Mathlib.Decide.{dec_lt}
use Rattle.window.proofs.MemoryLaws.{capacity-pages}
use Rattle.model.specs.Calls.{clear}
use Rattle.model.specs.Table.{fresh, within}
use Rattle.model.specs.Window.{Window, capacity_of, pages_of, is_retired, live_at, retired_at}
use Rattle.model.specs.Positions.{positions, wipe, moved, does}
use Rattle.model.specs.Steps.{release, retire_all_of, clear_step, window_does}
use Rattle.model.proofs.SweepLaws.{within-yes, wipe-in, wipe-above}
use Rattle.laws_soundness.specs.Change.{Proper}
use Rattle.laws_soundness.proofs.LimitLaws.{all-limits}
use Rattle.laws_soundness.proofs.VisitLaws.{pages-same}
use Rattle.laws_soundness.proofs.RetireLaws.{proper-retiring, retires-retiring}
use Rattle.laws_soundness.proofs.RetireRangeLaws.{everything, all-retired, all-retires, proper-all}
use Rattle.laws_refinement.specs.Seen.{positions_of, Follows}
use Rattle.laws_refinement.proofs.MarkLaws.{empty-live, InOrder, proper-order}
use Rattle.laws_refinement.proofs.MoveLaws.{Moves, within-pages, moves-seen}
use Rattle.laws_refinement.proofs.VisitLaws.{as_seen, dropped-seen, release-as}

module _ (w : Window) (ok : Proper w) where
  order : InOrder w.header.n (pages_of w) w
  order = proper-order w ok

  -- nothing stands past the last page
  live-past : (q : ℕ) → capacity_of w ≤ q → live_at w q ≡ none
  live-past q l = empty-live w.header.n w q (order.places (q / 64)) (order.past (q / 64) (omega (arith, capacity-pages w.header.window_size)))

  none-live : (q : ℕ) → wipe 0 (capacity_of w) (live_at w) q ≡ none
  none-live q = elim (dec_lt q (capacity_of w)) [
    | yes l ↦ wipe-in 0 (capacity_of w) (live_at w) q (omega arith) l
    | no l ↦ wipe-above 0 (capacity_of w) (live_at w) q (omega arith) ∙ live-past q (omega arith)
  ]

  all-moves : Moves (within 0 (pages_of w)) w (everything w ok)
  all-moves = record {
    pages = refl;
    cursor = refl;
    base = refl;
    marks = λ g. elim (dec_lt g (pages_of w)) [
      | yes l ↦ inl (all-retired w ok g (omega arith) ∙ sym (or-true (is_retired w g)) ∙ ap (λ (t : Bool). is_retired w g || t) (sym (within-yes 0 (pages_of w) g (omega arith) l)))
      | no l ↦ inr (order.past g (omega arith))
    ];
  }

  -- the positions of all pages
  all-positions : (q : ℕ) → within 0 (pages_of w) (q / 64) ≡ within 0 (capacity_of w) q
  all-positions q =
      let e : pages_of w * 64 ≡ capacity_of w = omega (arith, capacity-pages w.header.window_size) in
      within-pages 0 (pages_of w) q ∙ ap (λ (c : ℕ). within 0 c q) e

  pub all_seen : positions_of (retire_all_of w) ≡ positions fresh (moved 0 (capacity_of w) (live_at w) (retired_at w)) w.header.release_cursor w.header.base
  unfolding retire_all_of
  all_seen =
      let v = everything w ok in
      dropped-seen v (retires-retiring w v ok (all-retires w ok))
      ∙ moves-seen w.header.n w v order.places (within 0 (pages_of w)) all-moves 0 (capacity_of w) all-positions
      ∙ (λ i. positions (λ q. none-live q i) (moved 0 (capacity_of w) (live_at w) (retired_at w)) w.header.release_cursor w.header.base)

  -- ---- clear

  pub clear-follows : (listed : Bool) → Follows w (clear listed)
  unfolding does window_does clear_step
  clear-follows listed =
      let v = retire_all_of w in
      let t = release-as v (proper-retiring v (proper-all w ok)) 256 in
      let r = as_seen (pages_of v) (pages_of w) 256 256 (positions_of v) _ (release 256 v) (pages-same w v (all-limits w)) all_seen t in
      record { after = r.after; answer = refl; returned = r.out }
