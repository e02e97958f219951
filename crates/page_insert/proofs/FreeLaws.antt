-- The lowest cell not in use: fewer than n cells in use leave one of the first n, and it is what the code finds. As many as n in
-- use, all of the first n, are the first n. Assumes nothing.
use mathlib.Core.Path.{◌≡◌, refl, sym, ap, ◌∙◌}
use mathlib.Core.Bool.{Bool, true, false, not}
use Prim.Native.Nat.{ℕ, zero, suc, ◌+◌, ◌-◌, ◌^◌, ◌≤◌, ◌<◌}
use native.Mathlib.Nat.{not-suc-le-zero}
use native.Mathlib.Omega.{arith}
use native.Mathlib.Decide.{ℕ_discrete, dec_lt}
use borrow.Author.Tests.{eq-eqb, ne_eqb, eqb-true, eqb-false}
use Rattle.words.proofs.FirstLaws.{IsFirst, first-is, first-same}
use Rattle.words.specs.Word.{bit_at, is_set, count, count_below, span, lowest}
use Rattle.words.proofs.BitLaws.{bit-lt, bit_not, ext-bits}
use Rattle.words.proofs.CountLaws.{count-suc, count-le, count-up, count-gap}
use Rattle.words.proofs.SpanLaws.{span-in, span-above, span-lt}
use Rattle.page_insert.specs.Insert.{free_of}

-- ---- counting

-- n set bits below n
count-full : (n w : ℕ) → ((j : ℕ) → j < n → bit_at w j ≡ 1) → n ≤ count_below n w
count-full zero w h = omega arith
count-full (suc n) w h = omega (arith, count-suc n w, count-full n w (λ j l. h j (omega arith)), h n (omega arith))

-- the other way: as many as n are all of them
count-all : (n w : ℕ) → n ≤ count_below n w → (j : ℕ) → j < n → bit_at w j ≡ 1
count-all zero w h j l = absurd (not-suc-le-zero l)
count-all (suc n) w h j l = elim (ℕ_discrete j n) [
  | yes e ↦ ap (bit_at w) e ∙ omega (arith, count-suc n w, count-le n w, bit-lt w n)
  | no e ↦ count-all n w (omega (arith, count-suc n w, bit-lt w n)) j (omega arith)
]

-- n set bits, and none from n on
pub full-span : (n w : ℕ) → n ≤ 64 → w < 2 ^ 64 → ((j : ℕ) → j < 64 → bit_at w j ≡ 1 → j < n) → n ≤ count w → w ≡ span 0 n
full-span n w l fits below m = ext-bits 64 w (span 0 n) fits (span-lt 64 0 n l) each
  where
    clear : (j : ℕ) → n ≤ j → j < 64 → bit_at w j ≡ 0
    clear j a b = elim (ℕ_discrete (bit_at w j) 1) [
      | yes e ↦ absurd (omega (arith, below j b e))
      | no e ↦ omega (arith, bit-lt w j)
    ]

    low : n ≤ count_below n w
    low = omega (arith, m, count-gap w n 64 l clear)

    each : (j : ℕ) → j < 64 → bit_at w j ≡ bit_at (span 0 n) j
    each j b = elim (dec_lt j n) [
      | yes a ↦ count-all n w low j a ∙ sym (span-in 0 n j (omega arith) a)
      | no a ↦ clear j (omega arith) b ∙ sym (span-above 0 n j (omega arith))
    ]

-- ---- the lowest cell not in use

not-true : (b : Bool) → not b ≡ true → b ≡ false
not-true true e = sym e
not-true false e = refl

not-false : (b : Bool) → not b ≡ false → b ≡ true
not-false true e = refl
not-false false e = sym e

module _ (w : ℕ) where
  free-is : IsFirst (λ (c : ℕ). not (is_set w c)) 0 64 (free_of w)
  unfolding free_of
  free-is = first-is (λ (c : ℕ). not (is_set w c)) 64 0

  pub free-le : free_of w ≤ 64
  free-le = free-is.top

  pub free-clear : free_of w < 64 → bit_at w (free_of w) ≡ 0
  free-clear l =
      let n = eqb-false (bit_at w (free_of w)) 1 (not-true _ (free-is.held l)) in
      elim (ℕ_discrete (bit_at w (free_of w)) 1) [ yes e ↦ absurd (n e) | no e ↦ omega (arith, bit-lt w (free_of w)) ]

  free-above : (c : ℕ) → c < free_of w → bit_at w c ≡ 1
  free-above c l = eqb-true _ _ (not-false _ (free-is.none c (omega arith) l))

  -- fewer than n cells in use: one of the first n is not
  pub free-below : (n : ℕ) → n ≤ 64 → count w < n → free_of w < n
  free-below n l m = elim (dec_lt (free_of w) n) [
    | yes a ↦ a
    | no a ↦ absurd (omega (arith, count-full n w (λ j b. free-above j (omega arith)), count-up w n 64 l))
  ]

-- what the code finds: the lowest set bit of the complement
pub free-code : (w : ℕ) → w < 2 ^ 64 → lowest ((2 ^ 64 - 1) - w) 0 ≡ free_of w
unfolding lowest free_of
free-code w h = first-same (is_set ((2 ^ 64 - 1) - w)) (λ (c : ℕ). not (is_set w c)) 64 0 each
  where
    each : (j : ℕ) → 0 ≤ j → j < 64 + 0 → is_set ((2 ^ 64 - 1) - w) j ≡ not (is_set w j)
    each j a b = elim (ℕ_discrete (bit_at w j) 1) [
      | yes e ↦ rw (eq-eqb (bit_at w j) 1 e) (ne_eqb (bit_at ((2 ^ 64 - 1) - w) j) 1 (λ q. omega (arith, q, bit_not 64 j w h (omega arith))))
      | no e ↦ rw (ne_eqb (bit_at w j) 1 e) (eq-eqb (bit_at ((2 ^ 64 - 1) - w) j) 1 (omega (arith, bit-lt w j, bit_not 64 j w h (omega arith))))
    ]
