-- The lowest set bit of a word at or above a place: it exists, it is the only one, and `trailing_zeros` under a mask finds it. Assumes nothing.
use mathlib.Core.Path.{◌≡◌, refl, sym, ◌∙◌}
use Prim.Native.Nat.{ℕ, zero, suc, ◌+◌, ◌-◌, ◌*◌, ◌/◌, ◌%◌, ◌^◌, ◌≤◌, ◌<◌}
use native.Mathlib.Nat.{mod-lt, zero-lt-suc, le_of_suc-le-suc, not-suc-le-zero}
use native.Mathlib.Omega.{arith}
use native.Mathlib.Decide.{dec_le}
use borrow.Author.Tests.{eqb-true, eqb-false, eq-eqb, ne_eqb}
use lib.Bits.{bit_and}
use lib.Count.{count_trailing_zeros, under, trailing_le}
use mir.Val.{Fits}
use mir.Syntax.{w64}
use Rattle.words.specs.Word.{bit_at, is_set, lowest}
use Rattle.words.proofs.FirstLaws.{first-is, first-eq}
use Rattle.words.proofs.BitLaws.{bit-lt, bit-zero, bit-suc, bit-none, bit-and, bit-shl, bit-shl-low, bit-mod, bit-ones, ext-bits}

-- r is the lowest set bit of w at or above k; 64 if there is none
pub record Lowest (w k r : ℕ) : Type 0 where
  pub from : k ≤ r
  pub top : r ≤ 64
  pub held : r < 64 → bit_at w r ≡ 1
  pub none : (j : ℕ) → k ≤ j → j < r → bit_at w j ≡ 0

clear_of : (b : ℕ) → b < 2 → (b ≡ 1 → ⊥) → b ≡ 0
clear_of b l n = omega arith

-- what a caller reads off
pub lowest-is : (w k : ℕ) → k ≤ 64 → Lowest w k (lowest w k)
unfolding lowest
lowest-is w k h =
    let i = first-is (is_set w) (64 - k) k in
    record {
      from = i.from;
      top = omega (arith, i.top);
      held = λ l. eqb-true _ _ (i.held (omega arith));
      none = λ j a b. clear_of (bit_at w j) (bit-lt w j) (eqb-false (bit_at w j) 1 (i.none j a b));
    }

-- how code is shown to find it: there is no other
pub lowest-eq : (w k r : ℕ) → k ≤ 64 → Lowest w k r → r ≡ lowest w k
unfolding lowest
lowest-eq w k r h a =
    let e : 64 - k + k ≡ 64 = omega arith in
    first-eq (is_set w) (64 - k) k r (record {
      from = a.from;
      top = omega (arith, a.top);
      held = λ l. eq-eqb _ _ (a.held (omega arith));
      none = λ j l m. ne_eqb (bit_at w j) 1 (λ q. omega (arith, q, a.none j l m));
    })

-- a word that is not 0 has one
pub lowest-some : (w : ℕ) → w < 2 ^ 64 → (w ≡ 0 → ⊥) → lowest w 0 < 64
lowest-some w h n =
    let i = lowest-is w 0 (omega arith) in
    elim (dec_le 64 (lowest w 0)) [
      | yes l ↦ absurd (n (ext-bits 64 w 0 h (omega arith) (λ j m. i.none j (omega arith) (omega arith) ∙ sym (bit-none j))))
      | no l ↦ omega arith
    ]

-- ---- what `u64::trailing_zeros(w & (u64::MAX << k))` computes
trailing-bit : (k w : ℕ) → count_trailing_zeros k w < k → bit_at w (count_trailing_zeros k w) ≡ 1
unfolding count_trailing_zeros
trailing-bit zero w h = absurd (not-suc-le-zero h)
trailing-bit (suc k) w h = go (trailing-bit k (w / 2)) (w % 2) refl h
  where
    go : (count_trailing_zeros k (w / 2) < k → bit_at (w / 2) (count_trailing_zeros k (w / 2)) ≡ 1)
        → (d : ℕ) → w % 2 ≡ d → under d (count_trailing_zeros k (w / 2)) < suc k → bit_at w (under d (count_trailing_zeros k (w / 2))) ≡ 1
    go ih zero e l = bit-suc w (count_trailing_zeros k (w / 2)) ∙ ih (le_of_suc-le-suc l)
    go ih (suc d) e l = bit-zero w ∙ omega (arith, mod-lt w (zero-lt-suc 1))

trailing_below : (k w j : ℕ) → j < count_trailing_zeros k w → bit_at w j ≡ 0
unfolding count_trailing_zeros
trailing_below zero w j h = absurd (not-suc-le-zero h)
trailing_below (suc k) w j h = go (trailing_below k (w / 2)) j (w % 2) refl h
  where
    go : ((i : ℕ) → i < count_trailing_zeros k (w / 2) → bit_at (w / 2) i ≡ 0)
        → (i d : ℕ) → w % 2 ≡ d → i < under d (count_trailing_zeros k (w / 2)) → bit_at w i ≡ 0
    go ih i (suc d) e l = absurd (not-suc-le-zero l)
    go ih zero zero e l = bit-zero w ∙ e
    go ih (suc i) zero e l = bit-suc w i ∙ ih i (le_of_suc-le-suc l)

-- the mask `u64::MAX << k`: the bits from k up
mask_low : (k j : ℕ) → k < 64 → j < k → bit_at (((2 ^ 64 - 1) * 2 ^ k) % 2 ^ 64) j ≡ 0
mask_low k j h l = bit-mod 64 ((2 ^ 64 - 1) * 2 ^ k) j (omega arith) ∙ bit-shl-low (2 ^ 64 - 1) k j l

mask-high : (k j : ℕ) → k ≤ j → j < 64 → bit_at (((2 ^ 64 - 1) * 2 ^ k) % 2 ^ 64) j ≡ 1
mask-high k j h l =
    let i = j - k in
    let e : j ≡ k + i = omega arith in
    bit-mod 64 ((2 ^ 64 - 1) * 2 ^ k) j l ∙ rw (e, bit-shl (2 ^ 64 - 1) k i) (bit-ones 64 i (omega arith))

masked : (w k : ℕ) → k < 64 → Lowest w k (count_trailing_zeros 64 (bit_and w (((2 ^ 64 - 1) * 2 ^ k) % 2 ^ 64)))
masked w k h =
    let m = ((2 ^ 64 - 1) * 2 ^ k) % 2 ^ 64 in
    let r = count_trailing_zeros 64 (bit_and w m) in
    record {
      from = elim (dec_le k r) [ yes p ↦ p | no p ↦ absurd (let q = trailing-bit 64 (bit_and w m) (omega arith) in omega (arith, bit-and w m r, mask_low k r h (omega arith))) ];
      top = trailing_le 64 (bit_and w m);
      held = λ l. let q = trailing-bit 64 (bit_and w m) l in omega (arith, bit-and w m r, bit-lt w r);
      none = λ j a b. let q = trailing_below 64 (bit_and w m) j b in omega (arith, bit-and w m j, mask-high k j a (omega (arith, trailing_le 64 (bit_and w m))));
    }

pub lowest-code : (w k : ℕ) → k < 64 → count_trailing_zeros 64 (bit_and w (((2 ^ 64 - 1) * 2 ^ k) % 2 ^ 64)) ≡ lowest w k
lowest-code w k h = lowest-eq w k _ (omega arith) (masked w k h)

-- it fits a usize
pub trailing-fits : (w : ℕ) → Fits w64 (count_trailing_zeros 64 w)
trailing-fits w = omega (arith, trailing_le 64 w)
