-- Each live pair is live at one position: it stands at its sequence's, and nowhere else. Assumes nothing.
use mathlib.Core.Path.{◌≡◌, refl, ap}
use mathlib.Core.Option.{Option, none, some}
use mathlib.Core.List.{List}
use Prim.Native.Nat.{ℕ, zero, suc, ◌≤◌, ◌<◌}
use native.Mathlib.Omega.{arith}
use lib.Dec.{eqb}
use borrow.Author.Tests.{eqb-true}
use Rattle.words.proofs.CaseLaws.{bool}
use Rattle.window.specs.Memory.{position}
use Rattle.model.specs.Table.{Pair, Table}
use Rattle.model.specs.Demand3.{copies, also, pairs_below}
use Rattle.model.specs.Window.{Window, size_of, capacity_of, live_at}
use Rattle.model.specs.Sound.{Sound}
use Rattle.page_base.proofs.LiveLaws.{InPlace, live-in-place}

module _ (place : ℕ → ℕ) (s v : ℕ) where
  -- one position more: the pair of s does not stand there, or the rest has none
  none_more : (n : ℕ) (o : Option Pair) (l : List Pair) → InPlace place n o → n < place s → copies s v l ≡ 0 → copies s v (also o l) ≡ 0
  none_more n none l k h rest = rest
  none_more n (some e) l k h rest = bool (eqb e.sequence s) (λ y. absurd (omega (arith, h, k, ap place (eqb-true e.sequence s y)))) (λ y. rw y (omega (arith, rest)))

  once_more : (n : ℕ) (o : Option Pair) (l : List Pair) → InPlace place n o → (n ≤ place s → copies s v l ≡ 0) → copies s v l ≤ 1 → copies s v (also o l) ≤ 1
  once_more n none l k none-there rest = rest
  once_more n (some e) l k none-there rest =
      bool (eqb e.sequence s)
      (λ y.
      let z = none-there (omega (arith, k, ap place (eqb-true e.sequence s y))) in
      bool (eqb e.value v) (λ x. rw (y, x, z) (omega arith)) (λ x. rw (y, x, z) (omega arith)))
      (λ y. rw y (omega (arith, rest)))

  -- below its place a pair does not stand
  none_below : (t : Table) (n : ℕ) → ((q : ℕ) → q < n → InPlace place q (t q)) → n ≤ place s → copies s v (pairs_below n t) ≡ 0
  none_below t zero ok l = refl
  none_below t (suc n) ok l =
      none_more n (t n) (pairs_below n t) (ok n (omega arith)) (omega arith) (none_below t n (λ q k. ok q (omega arith)) (omega arith))

  once-below : (t : Table) (n : ℕ) → ((q : ℕ) → q < n → InPlace place q (t q)) → copies s v (pairs_below n t) ≤ 1
  once-below t zero ok = omega arith
  once-below t (suc n) ok =
      once_more n (t n) (pairs_below n t) (ok n (omega arith)) (none_below t n (λ q k. ok q (omega arith))) (once-below t n (λ q k. ok q (omega arith)))

pub once-live : (w : Window) → Sound w → (s v : ℕ) → copies s v (pairs_below (capacity_of w) (live_at w)) ≤ 1
once-live w ok s v = once-below (position (size_of w)) s v (live_at w) (capacity_of w) (live-in-place w ok)
