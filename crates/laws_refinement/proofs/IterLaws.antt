-- What is seen of a window, weighed by its cells: the pairs that iter gives from 0 until done are those of the cells that it reaches, and
-- the retired values are those of the cells in use that it does not. Assumes nothing.
use mathlib.Core.Path.{◌≡◌, sym, ap, ◌∙◌}
use mathlib.Core.Bool.{true, false, not, ◌&&◌}
use mathlib.Core.List.{[], ◌∷◌}
use Prim.Native.Nat.{ℕ, zero, suc, ◌+◌, ◌-◌, ◌/◌, ◌≤◌}
use native.Mathlib.Omega.{arith}
use lib.Dec.{ltb}
use borrow.Author.Tests.{ltb-true, ltb-false}
use Rattle.words.proofs.CaseLaws.{bool}
use Rattle.words.specs.First.{first_from_of}
use Rattle.words.proofs.FirstLaws.{first-is}
use Rattle.model.specs.Table.{Pair, sum}
use Rattle.model.specs.Window.{Window, capacity_of, in_use, is_retired, is_reached, cell_pair, iter_step, pairs_from, live_pairs_of, unreached, retired_values}
use Rattle.model.proofs.SumLaws.{total}
use Rattle.laws_soundness.proofs.SumLaws.{sum-zero, sum-suc}
use Rattle.laws_refinement.proofs.WeightLaws.{sum-skip, weights}
use Rattle.laws_refinement.proofs.CellLaws.{counted_cell}

module _ (w : Window) where
  -- ---- the cells that iter reaches

  -- the next of them from cell n on
  abbrev next : ℕ → ℕ
  next n = first_from_of (is_reached w) (capacity_of w - n) n

  pairs_next : (k n : ℕ) → ltb (next n) (capacity_of w) ≡ true → pairs_from (suc k) w n ≡ cell_pair w (next n) ∷ pairs_from k w (next n + 1)
  unfolding pairs_from iter_step
  pairs_next k n t = rw t

  pairs-done : (k n : ℕ) → ltb (next n) (capacity_of w) ≡ false → pairs_from (suc k) w n ≡ []
  unfolding pairs_from iter_step
  pairs-done k n t = rw t

  module _ (f : Pair → ℕ) where
    abbrev reached : ℕ → ℕ
    reached = counted_cell w (λ (g : ℕ). not (is_retired w g)) f

    -- none of the cells before the next is reached
    before-next : (n : ℕ) → sum (next n) reached ≡ sum n reached
    before-next n =
        let i = first-is (is_reached w) (capacity_of w - n) n in
        sum-skip (next n - n) n (next n) reached (omega (arith, i.from)) (λ q a b. rw (i.none q a b))

    pairs-weights : (k n : ℕ) → n ≤ capacity_of w → capacity_of w ≤ n + k → sum (capacity_of w) reached ≡ sum n reached + weights f (pairs_from k w n)
    unfolding pairs_from
    pairs-weights zero n a b = let e : capacity_of w ≡ n = omega arith in omega (arith, ap (λ (k : ℕ). sum k reached) e)
    pairs-weights (suc k) n a b =
        let i = first-is (is_reached w) (capacity_of w - n) n in
        bool (ltb (next n) (capacity_of w))
        (λ t.
        let l = ltb-true (next n) (capacity_of w) t in
        let more : weights f (pairs_from (suc k) w n) ≡ f (cell_pair w (next n)) + weights f (pairs_from k w (next n + 1)) = ap (weights f) (pairs_next k n t) in
        let one : reached (next n) ≡ f (cell_pair w (next n)) = rw (i.held (omega arith)) in
        let rest = pairs-weights k (next n + 1) (omega arith) (omega (arith, i.from)) in
        let sums : sum (next n + 1) reached ≡ sum (next n) reached + reached (next n) =
        let e : next n + 1 ≡ suc (next n) = omega arith in ap (λ (m : ℕ). sum m reached) e ∙ sum-suc (next n) reached in
        omega (arith, more, one, rest, sums, before-next n))
        (λ t.
        let e : next n ≡ capacity_of w = omega (arith, ltb-false (next n) (capacity_of w) t, i.top) in
        let none : weights f (pairs_from (suc k) w n) ≡ 0 = ap (weights f) (pairs-done k n t) in
        omega (arith, none, before-next n, ap (λ (m : ℕ). sum m reached) e))

    pub live-cells : weights f (live_pairs_of w) ≡ sum (capacity_of w) reached
    live-cells = omega (arith, pairs-weights (capacity_of w) 0 (omega arith) (omega arith), sum-zero reached)

  -- ---- the cells in use that iter does not reach

  is-retired : (n : ℕ) → (in_use w n && not (is_reached w n)) ≡ (in_use w n && is_retired w (n / 64))
  is-retired n = bool (in_use w n) (λ u. bool (is_retired w (n / 64)) (λ r. rw (u, r)) (λ r. rw (u, r))) (λ u. rw u)

  unreached-yes : (n : ℕ) → (in_use w n && not (is_reached w n)) ≡ true → unreached (suc n) w ≡ (cell_pair w n).value ∷ unreached n w
  unfolding unreached
  unreached-yes n t = rw (t, unreached)

  unreached-no : (n : ℕ) → (in_use w n && not (is_reached w n)) ≡ false → unreached (suc n) w ≡ unreached n w
  unfolding unreached
  unreached-no n t = rw (t, unreached)

  module _ (g : ℕ → ℕ) where
    abbrev retired : ℕ → ℕ
    retired = counted_cell w (is_retired w) (λ (e : Pair). g e.value)

    unreached-weights : (n : ℕ) → total g (unreached n w) ≡ sum n retired
    unfolding unreached
    unreached-weights zero = sym (sum-zero retired)
    unreached-weights (suc n) =
        bool (in_use w n && is_retired w (n / 64))
        (λ t.
        let more : total g (unreached (suc n) w) ≡ g (cell_pair w n).value + total g (unreached n w) = ap (total g) (unreached-yes n (is-retired n ∙ t)) in
        let one : retired n ≡ g (cell_pair w n).value = rw t in
        omega (arith, more, one, sum-suc n retired, unreached-weights n))
        (λ t.
        let none : retired n ≡ 0 = rw t in
        omega (arith, ap (total g) (unreached-no n (is-retired n ∙ t)), none, sum-suc n retired, unreached-weights n))

    pub retired-cells : total g (retired_values w) ≡ sum (capacity_of w) retired
    retired-cells = unreached-weights (capacity_of w)
