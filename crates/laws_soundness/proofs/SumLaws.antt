-- Sums over the first n numbers: pointwise equal and bounded summands, one summand changed, sums of sums. Assumes nothing.
use mathlib.Core.Path.{◌≡◌, refl, sym, ◌∙◌}
use Prim.Native.Nat.{ℕ, zero, suc, ◌+◌, ◌-◌, ◌*◌, ◌/◌, ◌≤◌, ◌<◌}
use native.Mathlib.Omega.{arith}
use native.Mathlib.Decide.{ℕ_discrete}
use borrow.Author.Tests.{eq-eqb, ne_eqb}
use Rattle.model.specs.Table.{sum}
use Rattle.model.specs.Window.{upd}

pub sum-zero : (f : ℕ → ℕ) → sum 0 f ≡ 0
unfolding sum
sum-zero f = refl

pub sum-suc : (n : ℕ) (f : ℕ → ℕ) → sum (suc n) f ≡ sum n f + f n
unfolding sum
sum-suc n f = refl

pub sum_same : (n : ℕ) (f g : ℕ → ℕ) → ((q : ℕ) → q < n → f q ≡ g q) → sum n f ≡ sum n g
sum_same zero f g h = sum-zero f ∙ sym (sum-zero g)
sum_same (suc n) f g h = omega (arith, sum-suc n f, sum-suc n g, sum_same n f g (λ q l. h q (omega arith)), h n (omega arith))

pub sum-add : (n : ℕ) (f g : ℕ → ℕ) → sum n (λ (q : ℕ). f q + g q) ≡ sum n f + sum n g
unfolding sum
sum-add zero f g = refl
sum-add (suc n) f g = omega (arith, sum-add n f g)

-- summands of at most m
pub sum-le : (m n : ℕ) (f : ℕ → ℕ) → ((q : ℕ) → q < n → f q ≤ m) → sum n f ≤ n * m
unfolding sum
sum-le m zero f h = omega arith
sum-le m (suc n) f h = omega (arith, sum-le m n f (λ q l. h q (omega arith)), h n (omega arith))

pub sum-none : (n : ℕ) (f : ℕ → ℕ) → ((q : ℕ) → q < n → f q ≡ 0) → sum n f ≡ 0
sum-none n f h = omega (arith, sum-le 0 n f (λ q l. omega (arith, h q l)))

-- a summand is at most the sum
pub sum-part : (n : ℕ) (f : ℕ → ℕ) (q : ℕ) → q < n → f q ≤ sum n f
unfolding sum
sum-part zero f q h = absurd (omega arith)
sum-part (suc n) f q h = elim (ℕ_discrete q n) [ yes e ↦ rw e (omega arith) | no e ↦ omega (arith, sum-part n f q (omega arith)) ]

-- summands that are the same but at p
pub sum-but : (n : ℕ) (f g : ℕ → ℕ) (p : ℕ) → p < n → ((q : ℕ) → q < n → (q ≡ p → ⊥) → f q ≡ g q) → sum n f + g p ≡ sum n g + f p
unfolding sum
sum-but zero f g p l h = absurd (omega arith)
sum-but (suc n) f g p l h =
    elim (ℕ_discrete p n) [
      | yes e ↦ rw e (omega (arith, sum_same n f g (λ q k. h q (omega arith) (λ d. omega arith))))
      | no e ↦ omega (arith, sum-but n f g p (omega arith) (λ q k d. h q (omega arith) d), h n (omega arith) (λ d. e (sym d)))
    ]

pub sum-upd : (n : ℕ) (f : ℕ → ℕ) (p x : ℕ) → p < n → sum n (upd f p x) + f p ≡ sum n f + x
sum-upd n f p x l =
    let own : upd f p x p ≡ x = rw (eq-eqb p p refl) in
    omega (arith, own, sum-but n (upd f p x) f p l (λ q k d. rw (ne_eqb q p d)))

-- two summands are at most the sum
pub sum-two : (n : ℕ) (f : ℕ → ℕ) (p q : ℕ) → p < n → q < n → (q ≡ p → ⊥) → f p + f q ≤ sum n f
sum-two n f p q l k d =
    let other : upd f p 0 q ≡ f q = rw (ne_eqb q p d) in
    omega (arith, sum-upd n f p 0 l, sum-part n (upd f p 0) q k, other)

-- two stretches, and blocks of 64
sum_more : (m n t : ℕ) (f : ℕ → ℕ) → t ≡ n + m → sum t f ≡ sum n f + sum m (λ (i : ℕ). f (n + i))
sum_more zero n t f e = let q : t ≡ n = omega arith in rw q (omega (arith, sum-zero (λ (i : ℕ). f (n + i))))
sum_more (suc m) n t f e =
    let q : t ≡ suc (n + m) = omega arith in
    rw q (omega (arith, sum-suc (n + m) f, sum-suc m (λ (i : ℕ). f (n + i)), sum_more m n (n + m) f refl))

pub sum-blocks : (n : ℕ) (f : ℕ → ℕ) → sum (64 * n) f ≡ sum n (λ (b : ℕ). sum 64 (λ (i : ℕ). f (64 * b + i)))
sum-blocks zero f = sum-zero f ∙ sym (sum-zero (λ (b : ℕ). sum 64 (λ (i : ℕ). f (64 * b + i))))
sum-blocks (suc n) f =
    omega (arith, sum_more 64 (64 * n) (64 * suc n) f (omega arith), sum-blocks n f, sum-suc n (λ (b : ℕ). sum 64 (λ (i : ℕ). f (64 * b + i))))

-- summands past n are 0
pub sum_past : (n m : ℕ) (f : ℕ → ℕ) → n ≤ m → ((q : ℕ) → n ≤ q → f q ≡ 0) → sum m f ≡ sum n f
sum_past n m f l h = omega (arith, sum_more (m - n) n m f (omega arith), sum-none (m - n) (λ (i : ℕ). f (n + i)) (λ i k. h (n + i) (omega arith)))

-- summands that are the same but in block b
pub sum-block : (n : ℕ) (f g : ℕ → ℕ) (b : ℕ) → b < n → ((q : ℕ) → (q / 64 ≡ b → ⊥) → f q ≡ g q)
    → sum (64 * n) f + sum 64 (λ (i : ℕ). g (64 * b + i)) ≡ sum (64 * n) g + sum 64 (λ (i : ℕ). f (64 * b + i))
sum-block n f g b l h =
    let t = sum-but n (λ (d : ℕ). sum 64 (λ (i : ℕ). f (64 * d + i))) (λ (d : ℕ). sum 64 (λ (i : ℕ). g (64 * d + i))) b l
    (λ d k e. sum_same 64 (λ (i : ℕ). f (64 * d + i)) (λ (i : ℕ). g (64 * d + i)) (λ i m. h (64 * d + i) (λ z. e (omega arith)))) in
    omega (arith, sum-blocks n f, sum-blocks n g, t)
