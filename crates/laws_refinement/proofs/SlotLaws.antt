-- Positions of a page emptied value by value: at the positions, the live table is drained there. Assumes nothing.
use mathlib.Core.Path.{◌≡◌, sym, ap, ◌∙◌}
use mathlib.Core.Bool.{Bool, true, false}
use mathlib.Core.Option.{none}
use mathlib.Core.List.{[]}
use Prim.Native.Nat.{ℕ, ◌+◌, ◌-◌, ◌*◌, ◌/◌, ◌%◌, ◌≤◌, ◌<◌}
use native.Mathlib.Omega.{arith}
use native.Mathlib.Decide.{ℕ_discrete, dec_lt}
use lib.ListN.{length}
use borrow.Author.Tests.{eq-eqb, ne_eqb}
use Rattle.words.proofs.CaseLaws.{bool}
use Rattle.window.specs.declared.Cause.TheVariants.{Range}
use Rattle.model.specs.Window.{Page, Window, stands_at, is_retired, live_at, retired_at}
use Rattle.model.specs.Pages.{holds_value, after_removal, demotes, PageDrained, drain_page}
use Rattle.model.specs.Positions.{Positions, positions, Drained, drained, drain}
use Rattle.model.specs.Steps.{with_page, Returned, returned_by, remove_slots_of}
use Rattle.page_base.specs.Page.{Placed}
use Rattle.page_remove.proofs.StandLaws.{after-stands}
use Rattle.page_remove.proofs.DrainLaws.{drain-span, drain-placed, TableDrained, drain-positions-from}
use Rattle.laws_soundness.proofs.PageLaws.{holds-none}
use Rattle.laws_soundness.proofs.PutLaws.{fewer}
use Rattle.laws_refinement.specs.Seen.{positions_of}
use Rattle.laws_refinement.proofs.SeenLaws.{fewer-seen, page-live, page-retired, live_here_lem, none-live-here, none-retired-here}
use Rattle.laws_refinement.proofs.MarkLaws.{empty-live}
use Rattle.laws_refinement.proofs.ReleaseLaws.{nothing-drained}

-- what is left and what comes out of the m positions from q upwards, where the positions were x
pub record Empties (m q : ℕ) (x : Positions) (r : Returned) : Type 0 where
  pub out : r.out ≡ (drain m q 64 x.live).out
  pub after : positions_of r.after ≡ positions (drain m q 64 x.live).left x.retired x.cursor x.base

-- where nothing is live
pub nothing-empties : (m q : ℕ) (w : Window) → drain m q 64 (live_at w) ≡ drained (live_at w) [] → Empties m q (positions_of w) (returned_by w [])
nothing-empties m q w e = record {
  out = ap (λ (d : Drained). d.out) (sym e);
  after = ap (λ (d : Drained). positions d.left (retired_at w) w.header.release_cursor w.header.base) (sym e);
}

-- P holds at the m positions from j upwards, of the 64 of page g, and at no others
module _ (n : ℕ) (w : Window) (g : ℕ) (P : ℕ → Bool) (j m q : ℕ) (ok : Placed n (w.pages g)) (from : q ≡ 64 * g + j) (inside : j + m ≤ 64)
    (low : (i : ℕ) → i < j → P i ≡ false) (here : (i : ℕ) → j ≤ i → i < j + m → P i ≡ true) (high : (i : ℕ) → j + m ≤ i → i < 64 → P i ≡ false) where
  abbrev d : PageDrained
  d = drain_page 64 0 P 64 (w.pages g)

  abbrev rest : Page
  rest = after_removal w.header.demote_at d.page

  abbrev table : Drained
  table = drain m q 64 (live_at w)

  module _ (r : is_retired w g ≡ false) where
    in_table : (i : ℕ) → i < 64 → live_at w (64 * g + i) ≡ stands_at (w.pages g) i
    in_table i l =
        let e : (64 * g + i) / 64 ≡ g = omega arith in
        let k : (64 * g + i) % 64 ≡ i = omega arith in
        live_here_lem w g (64 * g + i) e r ∙ ap (stands_at (w.pages g)) k

    both-drained : TableDrained (64 * g) j m (live_at w) table d
    both-drained =
        let k : j + m - j ≡ m = omega arith in
        let e = drain-span P j (j + m) 64 (w.pages g) (omega arith) inside low high ∙ ap (λ (x : ℕ). drain_page x j P 64 (w.pages g)) k in
        rw e (drain-positions-from n (64 * g) P m j 64 q (w.pages g) (live_at w) from ok inside in_table here)

    rest-stands : (i : ℕ) → i < 64 → stands_at rest i ≡ table.left (64 * g + i)
    rest-stands i l =
        after-stands n d.page (drain-placed P n 64 0 64 (w.pages g) (omega arith) ok) w.header.demote_at i l ∙ sym (both-drained.here i l)

    slots-live : (x : ℕ) → live_at (with_page w g rest) x ≡ table.left x
    slots-live x =
        page-live w g rest x
        ∙ elim (ℕ_discrete (x / 64) g) [
          | yes e ↦
              let z : 64 * g + x % 64 ≡ x = omega arith in
              rw (eq-eqb (x / 64) g e, r) (rest-stands (x % 64) (omega arith) ∙ ap table.left z)
          | no e ↦
              rw (ne_eqb (x / 64) g e)
              (elim (dec_lt x (64 * g)) [
                | yes l ↦ sym (both-drained.below x (omega arith))
                | no l ↦ sym (both-drained.above x (omega arith))
              ])
        ]

    slots-retired : (x : ℕ) → retired_at (with_page w g rest) x ≡ retired_at w x
    slots-retired x =
        page-retired w g rest x
        ∙ elim (ℕ_discrete (x / 64) g) [
          | yes e ↦ rw (eq-eqb (x / 64) g e, r) (sym (none-retired-here w g x e r))
          | no e ↦ rw (ne_eqb (x / 64) g e)
        ]

    taken : Empties m q (positions_of w) (returned_by (fewer w Range g (length d.out) rest (demotes w.header.demote_at d.page)) d.out)
    taken = record {
      out = sym both-drained.out;
      after = fewer-seen w Range g (length d.out) rest (demotes w.header.demote_at d.page)
          ∙ (λ i. positions (λ x. slots-live x i) (λ x. slots-retired x i) w.header.release_cursor w.header.base);
    }

  skipped : ((x : ℕ) → x / 64 ≡ g → live_at w x ≡ none) → Empties m q (positions_of w) (returned_by w [])
  skipped h = nothing-empties m q w (nothing-drained m q 64 (live_at w) (λ x a b. h x (omega arith)))

  pub slots-empties : Empties m q (positions_of w) (remove_slots_of w g P)
  unfolding remove_slots_of
  slots-empties =
      bool (is_retired w g)
      (λ r. rw r (skipped (λ x e. none-live-here w g x e r)))
      (λ r. bool (holds_value (w.pages g))
      (λ h. rw (r, h) (taken r))
      (λ h. rw (r, h) (skipped (λ x e. empty-live n w x (rw e ok) (rw e (holds-none (w.pages g) h))))))
