-- The number of set bits: after a change, of a word with none, and what `count_ones` computes. Assumes nothing.
use mathlib.Core.Path.{◌≡◌, refl, sym, ap, ◌∙◌}
use Prim.Native.Nat.{ℕ, zero, suc, ◌+◌, ◌*◌, ◌/◌, ◌%◌, ◌^◌, ◌≤◌, ◌<◌}
use native.Mathlib.Nat.{pow-suc, not-suc-le-zero, le_refl}
use native.Mathlib.Omega.{arith}
use native.Mathlib.Decide.{ℕ_discrete}
use lib.Arith.{lt-one}
use lib.Count.{ones, ones_step, ones-le}
use mir.Val.{Fits}
use mir.Syntax.{w64}
use Rattle.words.specs.Word.{bit_at, with_bit, count_below}
use Rattle.words.proofs.BitLaws.{bit-lt, bit-zero, bit-suc, bit-none, ext-bits, half_lt}
use Rattle.words.proofs.ChangeLaws.{with-same, with-other}

pub count-suc : (n w : ℕ) → count_below (suc n) w ≡ count_below n w + bit_at w n
unfolding count_below
count-suc n w = refl

pub count_none : (n : ℕ) → count_below n 0 ≡ 0
unfolding count_below
count_none zero = refl
count_none (suc n) = omega (arith, count_none n, bit-none n)

pub count-le : (n w : ℕ) → count_below n w ≤ n
unfolding count_below
count-le zero w = omega arith
count-le (suc n) w = omega (arith, count-le n w, bit-lt w n)

-- the same bits give the same number
pub count_same : (n a b : ℕ) → ((j : ℕ) → j < n → bit_at a j ≡ bit_at b j) → count_below n a ≡ count_below n b
unfolding count_below
count_same zero a b h = refl
count_same (suc n) a b h = omega (arith, count_same n a b (λ j l. h j (omega arith)), h n (le_refl (suc n)))

-- a set bit is counted
pub count_held : (n w k : ℕ) → k < n → bit_at w k ≡ 1 → 1 ≤ count_below n w
unfolding count_below
count_held zero w k l e = absurd (not-suc-le-zero l)
count_held (suc n) w k l e = elim (ℕ_discrete k n) [ yes p ↦ omega (arith, ap (bit_at w) p) | no p ↦ omega (arith, count_held n w k (omega arith) e) ]

-- after bit k is made b: one more after setting a clear bit, one less after clearing a set one
pub count-with : (n w k b : ℕ) → k < n → b < 2 → count_below n (with_bit w k b) + bit_at w k ≡ count_below n w + b
unfolding count_below
count-with zero w k b l h = absurd (not-suc-le-zero l)
count-with (suc n) w k b l h = elim (ℕ_discrete n k) [
  | yes e ↦
      omega (
        arith,
        ap (bit_at w) e,
        ap (bit_at (with_bit w k b)) e,
        with-same w k b h,
        count_same n (with_bit w k b) w (λ j m. with-other w k b j h (λ q. omega arith)),
      )
  | no e ↦ omega (arith, with-other w k b n h e, count-with n w k b (omega arith) h)
]

pub count_set : (n w k : ℕ) → k < n → bit_at w k ≡ 0 → count_below n (with_bit w k 1) ≡ count_below n w + 1
count_set n w k l e = omega (arith, count-with n w k 1 l (omega arith))

pub count-clear : (n w k : ℕ) → k < n → bit_at w k ≡ 1 → count_below n (with_bit w k 0) + 1 ≡ count_below n w
count-clear n w k l e = omega (arith, count-with n w k 0 l (omega arith))

-- more bits looked at
pub count-up : (w a b : ℕ) → a ≤ b → count_below a w ≤ count_below b w
count-up w a zero l = let e : a ≡ 0 = omega arith in rw e (le_refl _)
count-up w a (suc b) l = elim (ℕ_discrete a (suc b)) [
  | yes e ↦ rw e (le_refl _)
  | no e ↦ omega (arith, count-up w a b (omega arith), count-suc b w)
]

-- more bits looked at, all clear
pub count-gap : (w a b : ℕ) → a ≤ b → ((j : ℕ) → a ≤ j → j < b → bit_at w j ≡ 0) → count_below b w ≡ count_below a w
count-gap w a zero l h = let e : a ≡ 0 = omega arith in rw e
count-gap w a (suc b) l h = elim (ℕ_discrete a (suc b)) [
  | yes e ↦ rw e
  | no e ↦ omega (arith, count-suc b w, count-gap w a b (omega arith) (λ j x y. h j x (omega arith)), h b (omega arith) (le_refl (suc b)))
]

-- a word with no set bit is 0
pub count-zero : (n w : ℕ) → w < 2 ^ n → count_below n w ≡ 0 → w ≡ 0
count-zero n w h e = ext-bits n w 0 h (omega (arith, h)) (λ k l. clear k l ∙ sym (bit-none k))
  where
    clear : (k : ℕ) → k < n → bit_at w k ≡ 0
    clear k l = elim (ℕ_discrete (bit_at w k) 1) [ yes q ↦ absurd (omega (arith, count_held n w k l q)) | no q ↦ omega (arith, bit-lt w k) ]

-- ---- what `count_ones` computes
count_low : (n w : ℕ) → count_below (suc n) w ≡ w % 2 + count_below n (w / 2)
unfolding count_below
count_low zero w = omega (arith, bit-zero w)
count_low (suc n) w = omega (arith, count_low n w, count-suc n w, bit-suc w n)

pub count_code : (n w : ℕ) → w < 2 ^ n → ones w ≡ count_below n w
unfolding count_below ones
count_code zero w h = rw (lt-one h) refl
count_code (suc n) w h =
    let g : w < 2 ^ n * 2 = rw pow-suc at h in
    omega (arith, ones_step w, count_low n w, count_code n (w / 2) (half_lt w (2 ^ n) g))

-- it fits a usize
pub count_fits : (w : ℕ) → w < 2 ^ 64 → Fits w64 (ones w)
count_fits w h = omega (arith, ones-le 64 w h)
