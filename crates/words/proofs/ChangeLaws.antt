-- One bit changed: the bit itself, every other bit, and what `|` and `&` compute. Each law is over the new bit b, so that it
-- serves setting (b = 1) and clearing (b = 0). Assumes nothing.
use mathlib.Core.Path.{◌≡◌, refl, sym, ap, ◌∙◌}
use Prim.Native.Nat.{ℕ, zero, suc, ◌+◌, ◌-◌, ◌*◌, ◌/◌, ◌%◌, ◌^◌, ◌≤◌, ◌<◌}
use native.Mathlib.Nat.{pow-suc, mul_assoc, mul-one, le_of_suc-le-suc, not-suc-le-zero, one-mul, mod-eq_of_lt}
use native.Mathlib.Omega.{arith}
use native.Mathlib.Decide.{ℕ_discrete}
use lib.Pow.{pow-lt}
use lib.Bits.{bit_and, bit_or, or_lt, and_le_l}
use Rattle.words.specs.Word.{bit_at, with_bit, set_bit, clear_bit}
use Rattle.words.proofs.BitLaws.{bit-lt, bit-zero, bit-suc, bit_le, bit-and, bit-or, bit_not, bit-pow-same, bit-pow-other, ext-bits, half_lt}

-- ---- the half and the lowest bit of the changed word, which carry the induction over the place
double : (c x : ℕ) → c * (x * 2) ≡ c * x * 2
double c x = sym (mul_assoc c x 2)

halved : (w p q : ℕ) → p ≤ w / 2 → (w - p * 2 + q * 2) / 2 ≡ w / 2 - p + q
halved w p q h = omega arith

parity : (w p q : ℕ) → p ≤ w / 2 → (w - p * 2 + q * 2) % 2 ≡ w % 2
parity w p q h = omega arith

with-suc : (w k b : ℕ) → with_bit w (suc k) b ≡ w - bit_at (w / 2) k * 2 ^ k * 2 + b * 2 ^ k * 2
unfolding with_bit
with-suc w k b = rw (bit-suc, pow-suc 2 k, double (bit_at (w / 2) k) (2 ^ k), double b (2 ^ k))

with-half : (w k b : ℕ) → with_bit w (suc k) b / 2 ≡ with_bit (w / 2) k b
unfolding with_bit
with-half w k b = ap (λ (x : ℕ). x / 2) (with-suc w k b) ∙ halved w (bit_at (w / 2) k * 2 ^ k) (b * 2 ^ k) (bit_le (w / 2) k)

with-odd : (w k b : ℕ) → with_bit w (suc k) b % 2 ≡ w % 2
with-odd w k b = ap (λ (x : ℕ). x % 2) (with-suc w k b) ∙ parity w (bit_at (w / 2) k * 2 ^ k) (b * 2 ^ k) (bit_le (w / 2) k)

with-zero : (w b : ℕ) → with_bit w 0 b ≡ w - w % 2 + b
unfolding with_bit
with-zero w b = rw (bit-zero, mul-one, mul-one b)

-- ---- the bit itself, and every other
pub with-same : (w k b : ℕ) → b < 2 → bit_at (with_bit w k b) k ≡ b
with-same w zero b h = rw (bit-zero, with-zero) (omega arith)
with-same w (suc k) b h = rw (bit-suc, with-half) (with-same (w / 2) k b h)

pub with-other : (w k b j : ℕ) → b < 2 → (j ≡ k → ⊥) → bit_at (with_bit w k b) j ≡ bit_at w j
with-other w zero b zero h n = absurd (n refl)
with-other w zero b (suc j) h n =
    let e : with_bit w 0 b / 2 ≡ w / 2 = ap (λ (x : ℕ). x / 2) (with-zero w b) ∙ omega arith in
    bit-suc (with_bit w 0 b) j ∙ ap (λ (x : ℕ). bit_at x j) e ∙ sym (bit-suc w j)
with-other w (suc k) b zero h n = bit-zero (with_bit w (suc k) b) ∙ with-odd w k b ∙ sym (bit-zero w)
with-other w (suc k) b (suc j) h n =
    bit-suc (with_bit w (suc k) b) j ∙ ap (λ (x : ℕ). bit_at x j) (with-half w k b) ∙ with-other (w / 2) k b j h (λ e. n (ap suc e)) ∙ sym (bit-suc w j)

-- it stays a number of n bits
pub with-lt : (n w k b : ℕ) → w < 2 ^ n → k < n → b < 2 → with_bit w k b < 2 ^ n
with-lt zero w k b h l m = absurd (not-suc-le-zero l)
with-lt (suc n) w zero b h l m =
    let g : w < 2 ^ n * 2 = rw pow-suc at h in
    rw (with-zero, pow-suc) (omega arith)
with-lt (suc n) w (suc k) b h l m =
    let g : w < 2 ^ n * 2 = rw pow-suc at h in
    let r : with_bit w (suc k) b / 2 < 2 ^ n = rw with-half (with-lt n (w / 2) k b (half_lt w (2 ^ n) g) (le_of_suc-le-suc l) m) in
    rw pow-suc (omega arith)

-- a bit that has its value already
pub with-own : (w k : ℕ) → with_bit w k (bit_at w k) ≡ w
unfolding with_bit
with-own w k = omega (arith, bit_le w k)

-- changed twice at one place: the later counts
pub with-again : (w k a b : ℕ) → a < 2 → with_bit (with_bit w k a) k b ≡ with_bit w k b
unfolding with_bit
with-again w k a b h = rw (with-same w k a h) (omega (arith, bit_le w k))

-- ---- what the code computes
module _ (w k : ℕ) (fits : w < 2 ^ 64) (below : k < 64) where
  pub set_code : bit_or w (2 ^ k) ≡ set_bit w k
  set_code = ext-bits 64 (bit_or w (2 ^ k)) (set_bit w k) (or_lt 64 w (2 ^ k) fits (pow-lt below)) (with-lt 64 w k 1 fits below (omega arith)) each
    where
      each : (j : ℕ) → j < 64 → bit_at (bit_or w (2 ^ k)) j ≡ bit_at (set_bit w k) j
      each j l = elim (ℕ_discrete j k) [
        | yes e ↦ rw (bit-or, e, bit-pow-same, with-same w k 1 (omega arith)) (omega (arith, bit-lt w k))
        | no e ↦ rw (bit-or, bit-pow-other k j e, with-other w k 1 j (omega arith) e) (omega arith)
      ]

  pub clear-code : bit_and w ((2 ^ 64 - 1) - 2 ^ k) ≡ clear_bit w k
  clear-code = ext-bits 64 (bit_and w ((2 ^ 64 - 1) - 2 ^ k)) (clear_bit w k) (omega (arith, and_le_l w ((2 ^ 64 - 1) - 2 ^ k))) (with-lt 64 w k 0 fits below (omega arith)) each
    where
      each : (j : ℕ) → j < 64 → bit_at (bit_and w ((2 ^ 64 - 1) - 2 ^ k)) j ≡ bit_at (clear_bit w k) j
      each j l = elim (ℕ_discrete j k) [
        | yes e ↦ rw (bit-and, bit_not 64 j (2 ^ k) (pow-lt below) l, e, bit-pow-same, with-same w k 0 (omega arith)) (omega arith)
        | no e ↦ rw (bit-and, bit_not 64 j (2 ^ k) (pow-lt below) l, bit-pow-other k j e, with-other w k 0 j (omega arith) e) (omega (arith, bit-lt w j))
      ]

-- what `1 << k` computes
pub one_shl : (k : ℕ) → k < 64 → (1 * 2 ^ k) % 2 ^ 64 ≡ 2 ^ k
one_shl k h = ap (λ (x : ℕ). x % 2 ^ 64) (one-mul (2 ^ k)) ∙ mod-eq_of_lt (pow-lt h)
