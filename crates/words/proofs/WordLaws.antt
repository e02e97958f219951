-- The word made of a test: its bits are the test's. Assumes nothing.
use mathlib.Core.Path.{◌≡◌, sym, ap, ◌∙◌}
use mathlib.Core.Bool.{Bool, cond}
use Prim.Native.Nat.{ℕ, zero, suc, ◌+◌, ◌*◌, ◌%◌, ◌^◌, ◌<◌}
use native.Mathlib.Nat.{not-suc-le-zero, pow-suc}
use native.Mathlib.Omega.{arith}
use native.Mathlib.Decide.{ℕ_discrete}
use lib.Pow.{high, low}
use Rattle.words.specs.Word.{bit_at, word_below}
use Rattle.words.proofs.CaseLaws.{bool}
use Rattle.words.proofs.BitLaws.{bit-mod}

module _ (P : ℕ → Bool) where
  pub word_lt : (n : ℕ) → word_below n P < 2 ^ n
  unfolding word_below
  word_lt zero = omega arith
  word_lt (suc n) = rw pow-suc (bool (P n) (λ i. rw i (omega (arith, word_lt n))) (λ i. rw i (omega (arith, word_lt n))))

  -- the next bit on top
  word-top : (n d : ℕ) → d < 2 → bit_at (d * 2 ^ n + word_below n P) n ≡ d
  unfolding bit_at
  word-top n d h = ap (λ (x : ℕ). x % 2) (high d n (word_lt n)) ∙ omega arith

  word-rest : (n d j : ℕ) → j < n → bit_at (d * 2 ^ n + word_below n P) j ≡ bit_at (word_below n P) j
  word-rest n d j h = sym (bit-mod n (d * 2 ^ n + word_below n P) j h) ∙ ap (λ (x : ℕ). bit_at x j) (low d n (word_lt n))

  word-suc : (n : ℕ) → word_below (suc n) P ≡ cond (P n) 1 0 * 2 ^ n + word_below n P
  unfolding word_below
  word-suc n = bool (P n) (λ i. rw i (omega arith)) (λ i. rw i (omega arith))

  pub bit_word : (n k : ℕ) → k < n → bit_at (word_below n P) k ≡ cond (P k) 1 0
  bit_word zero k h = absurd (not-suc-le-zero h)
  bit_word (suc n) k h = elim (ℕ_discrete k n) [
    | yes e ↦ rw (e, word-suc n) (word-top n (cond (P n) 1 0) (bool (P n) (λ i. rw i (omega arith)) (λ i. rw i (omega arith))))
    | no e ↦ rw (word-suc n) (word-rest n (cond (P n) 1 0) k (omega arith) ∙ bit_word n k (omega arith))
  ]
