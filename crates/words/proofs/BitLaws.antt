-- The bits of a number: the induction over them, extensionality, the bits of `and`, `or`, complement, shifts and powers. Assumes nothing.
use mathlib.Core.Path.{◌≡◌, refl, sym, ap, ◌∙◌}
use Prim.Native.Nat.{ℕ, zero, suc, ◌-◌, ◌+◌, ◌*◌, ◌/◌, ◌%◌, ◌^◌, ◌≤◌, ◌<◌, min, max, zero-le, suc-le-suc}
use native.Mathlib.Nat.{pow-suc, mod-lt, zero-lt-suc, div-one, le_of_suc-le-suc, not-suc-le-zero, sub-zero, mul_assoc}
use native.Mathlib.Numerals.{one-add}
use native.Mathlib.Omega.{arith}
use lib.Arith.{digits_mod, lt-one}
use lib.Pow.{shr-shr, pow_pos, shl-shr, field, mod-mod-pow}
use lib.Bits.{bit_and, bit_or, and_step, or_step, and_shr, or_shr, shifted_even, shifted_half}
use Rattle.words.specs.Word.{bit_at}

-- ---- the induction: the lowest bit, and the bits of the half
pub bit-lt : (w k : ℕ) → bit_at w k < 2
unfolding bit_at
bit-lt w k = mod-lt (w / 2 ^ k) (zero-lt-suc 1)

pub bit-zero : (w : ℕ) → bit_at w 0 ≡ w % 2
unfolding bit_at
bit-zero w = ap (λ (x : ℕ). x % 2) (div-one w)

pub bit-suc : (w k : ℕ) → bit_at w (suc k) ≡ bit_at (w / 2) k
unfolding bit_at
bit-suc w k = ap (λ (n : ℕ). w / 2 ^ n % 2) (sym (one-add k)) ∙ ap (λ (x : ℕ). x % 2) (sym (shr-shr w 1 k))

pub half_lt : (w x : ℕ) → w < x * 2 → w / 2 < x
half_lt w x h = omega arith

-- the number 0 has no set bit
pub bit-none : (k : ℕ) → bit_at 0 k ≡ 0
bit-none zero = bit-zero 0
bit-none (suc k) = rw bit-suc (bit-none k)

-- a number below 2 ^ n has none from n on
pub bit_past : (n w k : ℕ) → w < 2 ^ n → n ≤ k → bit_at w k ≡ 0
bit_past zero w k h l = rw (lt-one h) (bit-none k)
bit_past (suc n) w zero h l = absurd (not-suc-le-zero l)
bit_past (suc n) w (suc k) h l =
    let g : w < 2 ^ n * 2 = rw pow-suc at h in
    rw bit-suc (bit_past n (w / 2) k (half_lt w (2 ^ n) g) (le_of_suc-le-suc l))

-- extensionality: two numbers of n bits with the same bits are equal
pub ext-bits : (n a b : ℕ) → a < 2 ^ n → b < 2 ^ n → ((k : ℕ) → k < n → bit_at a k ≡ bit_at b k) → a ≡ b
ext-bits zero a b ha hb e = omega (arith, lt-one ha, lt-one hb)
ext-bits (suc n) a b ha hb e =
    let ga : a < 2 ^ n * 2 = rw pow-suc at ha in
    let gb : b < 2 ^ n * 2 = rw pow-suc at hb in
    let low : a % 2 ≡ b % 2 = sym (bit-zero a) ∙ e 0 (suc-le-suc zero-le) ∙ bit-zero b in
    let high : a / 2 ≡ b / 2 = ext-bits n (a / 2) (b / 2) (half_lt a (2 ^ n) ga) (half_lt b (2 ^ n) gb) (λ k l. sym (bit-suc a k) ∙ e (suc k) (suc-le-suc l) ∙ bit-suc b k) in
    omega arith

-- a set bit's power of two is part of the number
pub bit_le : (w k : ℕ) → bit_at w k * 2 ^ k ≤ w
bit_le w zero = omega (arith, bit-zero w)
bit_le w (suc k) =
    let p : bit_at (w / 2) k * 2 ^ suc k ≡ bit_at (w / 2) k * 2 ^ k * 2 = ap (λ (x : ℕ). bit_at (w / 2) k * x) (pow-suc 2 k) ∙ sym (mul_assoc (bit_at (w / 2) k) (2 ^ k) 2) in
    rw (bit-suc, p) (omega (arith, bit_le (w / 2) k))

-- ---- `and`, `or`, complement: as numbers below 2, so that arithmetic reads them
min-lt : (a b : ℕ) → a < 2 → min a b < 2
min-lt a b h = omega arith

max-lt : (a b : ℕ) → a < 2 → b < 2 → max a b < 2
max-lt a b h l = omega arith

pub bit-and : (a b k : ℕ) → bit_at (bit_and a b) k ≡ min (bit_at a k) (bit_at b k)
unfolding bit_at
bit-and a b k = rw (and_shr, and_step) (digits_mod _ (min-lt _ _ (bit-lt a k)))

pub bit-or : (a b k : ℕ) → bit_at (bit_or a b) k ≡ max (bit_at a k) (bit_at b k)
unfolding bit_at
bit-or a b k = rw (or_shr, or_step) (digits_mod _ (max-lt _ _ (bit-lt a k) (bit-lt b k)))

not-half : (w x : ℕ) → w < x * 2 → ((x * 2 - 1) - w) / 2 ≡ (x - 1) - w / 2
not-half w x h = omega arith

not-odd : (w x : ℕ) → w < x * 2 → ((x * 2 - 1) - w) % 2 ≡ 1 - w % 2
not-odd w x h = omega arith

-- the complement at n bits
pub bit_not : (n k w : ℕ) → w < 2 ^ n → k < n → bit_at ((2 ^ n - 1) - w) k ≡ 1 - bit_at w k
bit_not zero k w h l = absurd (not-suc-le-zero l)
bit_not (suc n) zero w h l =
    let g : w < 2 ^ n * 2 = rw pow-suc at h in
    rw (bit-zero, bit-zero w, pow-suc) (not-odd w (2 ^ n) g)
bit_not (suc n) (suc k) w h l =
    let g : w < 2 ^ n * 2 = rw pow-suc at h in
    rw (bit-suc, bit-suc w, pow-suc, not-half w (2 ^ n) g) (bit_not n k (w / 2) (half_lt w (2 ^ n) g) (le_of_suc-le-suc l))

-- n set bits
pub bit-ones : (n j : ℕ) → j < n → bit_at (2 ^ n - 1) j ≡ 1
bit-ones n j h = ap (λ (x : ℕ). bit_at x j) (sym (sub-zero (2 ^ n - 1))) ∙ bit_not n j 0 (pow_pos n) h ∙ rw bit-none

-- ---- a power of two has one bit
pow-half : (k : ℕ) → 2 ^ suc k / 2 ≡ 2 ^ k
pow-half k = let e = pow-suc 2 k in omega arith

pow_even : (k : ℕ) → 2 ^ suc k % 2 ≡ 0
pow_even k = let e = pow-suc 2 k in omega arith

pub bit-pow-same : (k : ℕ) → bit_at (2 ^ k) k ≡ 1
bit-pow-same zero = bit-zero 1
bit-pow-same (suc k) = rw (bit-suc, pow-half) (bit-pow-same k)

pub bit-pow-other : (k j : ℕ) → (j ≡ k → ⊥) → bit_at (2 ^ k) j ≡ 0
bit-pow-other zero zero h = absurd (h refl)
bit-pow-other zero (suc j) h = rw bit-suc (bit-none j)
bit-pow-other (suc k) zero h = rw bit-zero (pow_even k)
bit-pow-other (suc k) (suc j) h = rw (bit-suc, pow-half) (bit-pow-other k j (λ e. h (ap suc e)))

-- ---- shifts, and the lowest n bits
pub bit-shr : (w s j : ℕ) → bit_at (w / 2 ^ s) j ≡ bit_at w (s + j)
unfolding bit_at
bit-shr w s j = ap (λ (x : ℕ). x % 2) (shr-shr w s j)

pub bit-shl : (a k j : ℕ) → bit_at (a * 2 ^ k) (k + j) ≡ bit_at a j
bit-shl a k j = sym (bit-shr (a * 2 ^ k) k j) ∙ ap (λ (x : ℕ). bit_at x j) (shl-shr a k)

pub bit-shl-low : (a k j : ℕ) → j < k → bit_at (a * 2 ^ k) j ≡ 0
bit-shl-low a zero j h = absurd (not-suc-le-zero h)
bit-shl-low a (suc k) zero h = rw bit-zero (shifted_even a k)
bit-shl-low a (suc k) (suc j) h = rw (bit-suc, shifted_half) (bit-shl-low a k j (le_of_suc-le-suc h))

pub bit-mod : (n a j : ℕ) → j < n → bit_at (a % 2 ^ n) j ≡ bit_at a j
unfolding bit_at
bit-mod n a j h =
    let m = n - suc j in
    let e : n ≡ (m + 1) + j = omega arith in
    rw (e, field a (m + 1) j, mod-mod-pow (a / 2 ^ j) m 1)
