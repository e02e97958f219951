-- The bits of a span, and what the code's two shifts compute. Assumes nothing.
use mathlib.Core.Path.{◌≡◌, sym, ap, ◌∙◌}
use Prim.Native.Nat.{ℕ, ◌+◌, ◌-◌, ◌*◌, ◌/◌, ◌%◌, ◌^◌, ◌≤◌, ◌<◌}
use native.Mathlib.Nat.{mod-eq_of_lt, le_refl, le_of_lt}
use native.Mathlib.Omega.{arith}
use lib.Pow.{pow_pos, pow_mono, ones_split, ones_lt, high_ones, high}
use Rattle.words.specs.Word.{bit_at, span}
use Rattle.words.proofs.BitLaws.{bit-shl, bit-shl-low, bit-ones, bit_past}

span-shape : (f t : ℕ) → f ≤ t → span f t ≡ (2 ^ (t - f) - 1) * 2 ^ f
unfolding span
span-shape f t h = let e : t ≡ (t - f) + f = omega arith in ap (λ (x : ℕ). 2 ^ x - 2 ^ f) e ∙ high_ones (t - f) f

pub span-in : (f t j : ℕ) → f ≤ j → j < t → bit_at (span f t) j ≡ 1
span-in f t j a b =
    let i = j - f in
    let e : j ≡ f + i = omega arith in
    rw (span-shape f t (omega arith), e, bit-shl (2 ^ (t - f) - 1) f i) (bit-ones (t - f) i (omega arith))

pub span_below : (f t j : ℕ) → f ≤ t → j < f → bit_at (span f t) j ≡ 0
span_below f t j h l = rw (span-shape f t h) (bit-shl-low (2 ^ (t - f) - 1) f j l)

pub span-lt : (n f t : ℕ) → t ≤ n → span f t < 2 ^ n
unfolding span
span-lt n f t h = omega (arith, pow_mono h, pow_pos f, pow_pos t)

pub span-above : (f t j : ℕ) → t ≤ j → bit_at (span f t) j ≡ 0
span-above f t j l = bit_past t (span f t) j (span-lt t f t (le_refl t)) l

-- what `(u64::MAX >> (64 - (t - f))) << f` computes
pub span-code : (f t : ℕ) → f < t → t ≤ 64 → ((2 ^ 64 - 1) / 2 ^ (64 - (t - f)) * 2 ^ f) % 2 ^ 64 ≡ span f t
span-code f t a b =
    let n = t - f in
    let s = 64 - (t - f) in
    let e : n + s ≡ 64 = omega arith in
    let q : (2 ^ 64 - 1) / 2 ^ s ≡ 2 ^ n - 1 = ap (λ (x : ℕ). (2 ^ x - 1) / 2 ^ s) (sym e) ∙ ap (λ (x : ℕ). x / 2 ^ s) (ones_split n s) ∙ high (2 ^ n - 1) s (ones_lt s) in
    rw (q, ← span-shape f t (le_of_lt a)) (mod-eq_of_lt (span-lt 64 f t b))
