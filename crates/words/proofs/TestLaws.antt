-- Whether a bit of a word is set, in a word made of a test or by `&`, `|`, `!`; words with the same bits set are equal. Assumes nothing.
use mathlib.Core.Path.{◌≡◌, refl, sym, ap, ◌∙◌}
use mathlib.Core.Bool.{Bool, true, false, not, cond, ◌&&◌, ◌||◌}
use Prim.Native.Nat.{ℕ, zero, suc, ◌-◌, ◌^◌, ◌<◌, min, max}
use native.Mathlib.Omega.{arith}
use lib.Dec.{eqb}
use lib.Bits.{bit_and, bit_or}
use Rattle.words.specs.Word.{bit_at, is_set, word_of}
use Rattle.words.proofs.BitLaws.{bit-lt, bit-and, bit-or, bit_not, bit-ones, ext-bits}
use Rattle.words.proofs.WordLaws.{word_lt, bit_word}

-- a bit and its test
from-test : (d : ℕ) → d < 2 → d ≡ cond (eqb d 1) 1 0
from-test zero h = refl
from-test (suc zero) h = refl
from-test (suc (suc d)) h = absurd (omega arith)

pub bit_test : (w i : ℕ) → bit_at w i ≡ cond (is_set w i) 1 0
bit_test w i = from-test (bit_at w i) (bit-lt w i)

-- how words are shown equal
pub ext-set : (a b : ℕ) → a < 2 ^ 64 → b < 2 ^ 64 → ((i : ℕ) → i < 64 → is_set a i ≡ is_set b i) → a ≡ b
ext-set a b h l e = ext-bits 64 a b h l (λ i m. bit_test a i ∙ ap (λ (t : Bool). cond t 1 0) (e i m) ∙ sym (bit_test b i))

-- the test of a bit that is 1 just where t holds
test_of : (t : Bool) → eqb (cond t 1 0) 1 ≡ t
test_of true = refl
test_of false = refl

pub word_set : (P : ℕ → Bool) (i : ℕ) → i < 64 → is_set (word_of P) i ≡ P i
word_set P i h = ap (λ (d : ℕ). eqb d 1) (bit_word P 64 i h) ∙ test_of (P i)

-- how a word is shown to be that of a test
pub word-eq : (w : ℕ) (P : ℕ → Bool) → w < 2 ^ 64 → ((i : ℕ) → i < 64 → is_set w i ≡ P i) → w ≡ word_of P
word-eq w P h e = ext-set w (word_of P) h (word_lt P 64) (λ i l. e i l ∙ sym (word_set P i l))

min-test : (a b : ℕ) → a < 2 → b < 2 → eqb (min a b) 1 ≡ (eqb a 1 && eqb b 1)
min-test zero b h l = let e : min 0 b ≡ 0 = omega arith in ap (λ (d : ℕ). eqb d 1) e
min-test (suc zero) zero h l = refl
min-test (suc zero) (suc zero) h l = refl
min-test (suc zero) (suc (suc b)) h l = absurd (omega arith)
min-test (suc (suc a)) b h l = absurd (omega arith)

max-test : (a b : ℕ) → a < 2 → b < 2 → eqb (max a b) 1 ≡ (eqb a 1 || eqb b 1)
max-test zero b h l = let e : max 0 b ≡ b = omega arith in ap (λ (d : ℕ). eqb d 1) e
max-test (suc zero) zero h l = refl
max-test (suc zero) (suc zero) h l = refl
max-test (suc zero) (suc (suc b)) h l = absurd (omega arith)
max-test (suc (suc a)) b h l = absurd (omega arith)

not_test : (a : ℕ) → a < 2 → eqb (1 - a) 1 ≡ not (eqb a 1)
not_test zero h = refl
not_test (suc zero) h = refl
not_test (suc (suc a)) h = absurd (omega arith)

pub and_set : (a b i : ℕ) → is_set (bit_and a b) i ≡ (is_set a i && is_set b i)
and_set a b i = ap (λ (d : ℕ). eqb d 1) (bit-and a b i) ∙ min-test (bit_at a i) (bit_at b i) (bit-lt a i) (bit-lt b i)

pub or_set : (a b i : ℕ) → is_set (bit_or a b) i ≡ (is_set a i || is_set b i)
or_set a b i = ap (λ (d : ℕ). eqb d 1) (bit-or a b i) ∙ max-test (bit_at a i) (bit_at b i) (bit-lt a i) (bit-lt b i)

pub not_set : (w i : ℕ) → w < 2 ^ 64 → i < 64 → is_set ((2 ^ 64 - 1) - w) i ≡ not (is_set w i)
not_set w i h l = ap (λ (d : ℕ). eqb d 1) (bit_not 64 i w h l) ∙ not_test (bit_at w i) (bit-lt w i)

-- every bit of the highest word
pub all_set : (i : ℕ) → i < 64 → is_set (2 ^ 64 - 1) i ≡ true
all_set i h = ap (λ (d : ℕ). eqb d 1) (bit-ones 64 i h)
