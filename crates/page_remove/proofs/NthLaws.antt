-- The set bit that has k set bits below it: it is the only one. Assumes nothing.
use mathlib.Core.Path.{◌≡◌, refl, ap, ◌∙◌}
use Prim.Native.Nat.{ℕ, zero, suc, ◌+◌, ◌≤◌, ◌<◌}
use native.Mathlib.Omega.{arith}
use native.Mathlib.Decide.{dec_lt}
use Rattle.words.specs.Word.{bit_at, count_below, count, lowest}
use Rattle.words.proofs.CountLaws.{count-suc, count-le, count-up, count-gap}
use Rattle.words.proofs.LowestLaws.{lowest-is}
use Rattle.model.specs.Pages.{nth_set}

module _ (w : ℕ) where
  at : (a b : ℕ) → a ≡ b → count_below a w ≡ count_below b w
  at a b e = ap (λ (x : ℕ). count_below x w) e

  -- the set bit with k set bits below it
  pub record IsNth (k q : ℕ) : Type 0 where
    pub inside : q < 64
    pub set : bit_at w q ≡ 1
    pub below : count_below q w ≡ k

  next-nth : (k a q : ℕ) → a ≤ 64 → count_below a w ≡ k → k < count w → q ≡ lowest w a → IsNth k q
  next-nth k a q m e l d =
      let i = lowest-is w a m in
      let same = count-gap w a q (omega (arith, i.from)) (λ j x y. i.none j x (omega arith)) in
      elim (dec_lt q 64) [
        | yes p ↦ record { inside = p; set = ap (bit_at w) d ∙ i.held (omega arith); below = omega (arith, same) }
        | no p ↦ absurd (let z : q ≡ 64 = omega (arith, i.top) in omega (arith, same, at q 64 z))
      ]

  count-none-below : count_below 0 w ≡ 0
  unfolding count_below
  count-none-below = refl

  pub nth-is : (k : ℕ) → k < count w → IsNth k (nth_set w k)
  unfolding nth_set
  nth-is zero l = next-nth 0 0 (lowest w 0) (omega arith) count-none-below l refl
  nth-is (suc k) l =
      let i = nth-is k (omega arith) in
      let q = nth_set w k in
      next-nth (suc k) (q + 1) (lowest w (q + 1)) (omega (arith, i.inside))
      (at (q + 1) (suc q) (omega arith) ∙ count-suc q w ∙ omega (arith, i.set, i.below)) l refl

  -- there is no other
  above : (k q r : ℕ) → IsNth k q → IsNth k r → q < r → ⊥
  above k q r a b l = omega (arith, count-up w (suc q) r l, count-suc q w, a.set, a.below, b.below)

  pub nth-only : (k q r : ℕ) → IsNth k q → IsNth k r → q ≡ r
  nth-only k q r a b =
      elim (dec_lt q r) [
        | yes l ↦ absurd (above k q r a b l)
        | no l ↦ elim (dec_lt r q) [ yes m ↦ absurd (above k r q b a m) | no m ↦ omega arith ]
      ]

  pub nth-lt : (k q : ℕ) → IsNth k q → k < count w
  nth-lt k q i = omega (arith, count-up w (suc q) 64 i.inside, count-suc q w, i.set, i.below)

  pub nth-eq : (k q : ℕ) → IsNth k q → nth_set w k ≡ q
  nth-eq k q i = nth-only k (nth_set w k) q (nth-is k (nth-lt k q i)) i

  -- it is not below k
  pub nth-ge : (k q : ℕ) → IsNth k q → k ≤ q
  nth-ge k q i = omega (arith, count-le q w, i.below)
