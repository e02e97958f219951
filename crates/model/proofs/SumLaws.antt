-- Sums over positions, the weight of a table and of a list, and how often a value stands in them. One weight g of values serves
-- both counts: g 1 everywhere counts pairs, g 1 at v counts v. Assumes nothing.
use mathlib.Core.Path.{◌≡◌, refl, sym, ap, ◌∙◌}
use mathlib.Core.Bool.{Bool, cond}
use mathlib.Core.Option.{Option, none, some}
use mathlib.Core.List.{List, [], ◌∷◌, ◌++◌}
use Prim.Native.Nat.{ℕ, zero, suc, ◌+◌, ◌≤◌, ◌<◌}
use native.Mathlib.Omega.{arith}
use native.Mathlib.Decide.{ℕ_discrete}
use lib.Dec.{eqb}
use lib.ListN.{length}
use borrow.Author.Tests.{eq-eqb, ne_eqb}
use Rattle.words.proofs.CaseLaws.{bool}
use Rattle.model.specs.Table.{Pair, Table, fresh, sum, held, at}
use Rattle.model.specs.Demand3.{one, times, values, pairs_below, lost}

-- cases on what stands at a position, each with its equation
pub case : {B : Type 0} (o : Option Pair) → (o ≡ none → B) → ((x : Pair) → o ≡ some x → B) → B
case none f g = f refl
case (some x) f g = g x refl

-- ---- sums

pub sum-ext : (n : ℕ) (f g : ℕ → ℕ) → ((q : ℕ) → q < n → f q ≡ g q) → sum n f ≡ sum n g
unfolding sum
sum-ext zero f g h = refl
sum-ext (suc n) f g h = omega (arith, sum-ext n f g (λ q l. h q (omega arith)), h n (omega arith))

pub sum-add : (n : ℕ) (f g : ℕ → ℕ) → sum n (λ (q : ℕ). f q + g q) ≡ sum n f + sum n g
unfolding sum
sum-add zero f g = refl
sum-add (suc n) f g = omega (arith, sum-add n f g)

pub sum-zero : (n : ℕ) (f : ℕ → ℕ) → ((q : ℕ) → q < n → f q ≡ 0) → sum n f ≡ 0
unfolding sum
sum-zero zero f h = refl
sum-zero (suc n) f h = omega (arith, sum-zero n f (λ q l. h q (omega arith)), h n (omega arith))

-- the first apart
pub sum_first : (n : ℕ) (f : ℕ → ℕ) → sum (suc n) f ≡ f 0 + sum n (λ (q : ℕ). f (suc q))
unfolding sum
sum_first zero f = omega arith
sum_first (suc n) f = omega (arith, sum_first n f)

-- two functions that agree but at p
pub sum-point : (n : ℕ) (f g : ℕ → ℕ) (p : ℕ) → p < n → ((q : ℕ) → q < n → (q ≡ p → ⊥) → f q ≡ g q) → sum n f + g p ≡ sum n g + f p
unfolding sum
sum-point zero f g p l h = absurd (omega arith)
sum-point (suc n) f g p l h =
    elim (ℕ_discrete p n) [
      | yes i ↦ rw i (omega (arith, sum-ext n f g (λ q k. h q (omega arith) (λ d. omega arith))))
      | no i ↦ omega (arith, sum-point n f g p (omega arith) (λ q k d. h q (omega arith) d), h n (omega arith) (λ d. i (sym d)))
    ]

-- a sum that is not zero has a place that is not
pub sum-find : (n : ℕ) (f : ℕ → ℕ) → 0 < sum n f → (q : ℕ) × (q < n) × (0 < f q)
unfolding sum
sum-find zero f h = absurd (omega arith)
sum-find (suc n) f h =
    elim (ℕ_discrete (f n) 0) [
      | yes e ↦ let r = sum-find n f (omega arith) in (r.0, omega (arith, r.1), r.2)
      | no e ↦ (n, omega arith, omega arith)
    ]

pub sum-pick : (n : ℕ) (f : ℕ → ℕ) (q : ℕ) → q < n → f q ≤ sum n f
unfolding sum
sum-pick zero f q h = absurd (omega arith)
sum-pick (suc n) f q h = elim (ℕ_discrete q n) [ yes i ↦ rw i (omega arith) | no i ↦ omega (arith, sum-pick n f q (omega arith)) ]

-- ---- a table with one position changed

pub at_same : (t : Table) (p : ℕ) (o : Option Pair) → at t p o p ≡ o
at_same t p o = rw (eq-eqb p p refl)

pub at_other : (t : Table) (p : ℕ) (o : Option Pair) (q : ℕ) → (q ≡ p → ⊥) → at t p o q ≡ t q
at_other t p o q d = rw (ne_eqb q p d)

pub sum-at : (n : ℕ) (f : Option Pair → ℕ) (t : Table) (p : ℕ) (o : Option Pair) → p < n
    → sum n (λ (q : ℕ). f (at t p o q)) + f (t p) ≡ sum n (λ (q : ℕ). f (t q)) + f o
sum-at n f t p o l =
    let r = sum-point n (λ (q : ℕ). f (at t p o q)) (λ (q : ℕ). f (t q)) p l (λ q k d. ap f (at_other t p o q d)) in
    omega (arith, r, ap f (at_same t p o))

-- ---- weights

abbrev pub weigh : (ℕ → ℕ) → Option Pair → ℕ
weigh g none = 0
weigh g (some e) = g e.value

abbrev pub weight : ℕ → (ℕ → ℕ) → Table → ℕ
weight n g t = sum n (λ (q : ℕ). weigh g (t q))

abbrev pub total : (ℕ → ℕ) → List ℕ → ℕ
total g [] = 0
total g (x ∷ xs) = g x + total g xs

-- 1 at v alone
abbrev pub equals : ℕ → ℕ → ℕ
equals v x = one (eqb x v)

abbrev pub each : ℕ → ℕ
each x = 1

pub total-append : (g : ℕ → ℕ) (xs ys : List ℕ) → total g (xs ++ ys) ≡ total g xs + total g ys
total-append g [] ys = omega arith
total-append g (x ∷ xs) ys = omega (arith, total-append g xs ys)

pub total-times : (v : ℕ) (l : List ℕ) → total (equals v) l ≡ times v l
total-times v [] = refl
total-times v (x ∷ xs) = omega (arith, total-times v xs)

pub total-length : (l : List ℕ) → total each l ≡ length l
total-length [] = refl
total-length (x ∷ xs) = omega (arith, total-length xs)

pub times-append : (v : ℕ) (xs ys : List ℕ) → times v (xs ++ ys) ≡ times v xs + times v ys
times-append v [] ys = omega arith
times-append v (x ∷ xs) ys = omega (arith, times-append v xs ys)

pub held-le : (o : Option Pair) → held o ≤ 1
held-le none = omega arith
held-le (some e) = omega arith

pub weigh-held : (o : Option Pair) → weigh each o ≡ held o
weigh-held none = refl
weigh-held (some e) = refl

pub weight-held : (n : ℕ) (t : Table) → weight n each t ≡ sum n (λ (q : ℕ). held (t q))
weight-held n t = sum-ext n (λ (q : ℕ). weigh each (t q)) (λ (q : ℕ). held (t q)) (λ q l. weigh-held (t q))

pub weight-fresh : (n : ℕ) (g : ℕ → ℕ) → weight n g fresh ≡ 0
weight-fresh n g = sum-zero n (λ (q : ℕ). weigh g none) (λ q l. refl)

pub weight-same : (n : ℕ) (g : ℕ → ℕ) (t u : Table) → ((q : ℕ) → q < n → t q ≡ u q) → weight n g t ≡ weight n g u
weight-same n g t u h = sum-ext n (λ (q : ℕ). weigh g (t q)) (λ (q : ℕ). weigh g (u q)) (λ q l. ap (weigh g) (h q l))

-- ---- the pairs of a table

pub total-pairs : (n : ℕ) (g : ℕ → ℕ) (t : Table) → total g (values (pairs_below n t)) ≡ weight n g t
unfolding sum
total-pairs zero g t = refl
total-pairs (suc n) g t = case (t n) (λ e. rw e (omega (arith, total-pairs n g t))) (λ x e. rw e (omega (arith, total-pairs n g t)))

pub times-pairs : (n v : ℕ) (t : Table) → times v (values (pairs_below n t)) ≡ weight n (equals v) t
times-pairs n v t = sym (total-times v (values (pairs_below n t))) ∙ total-pairs n (equals v) t

pub no_length : (l : List ℕ) → length l ≡ 0 → l ≡ []
no_length [] e = refl
no_length (x ∷ xs) e = absurd (omega arith)

pub length-values : (l : List Pair) → length (values l) ≡ length l
length-values [] = refl
length-values (x ∷ xs) = ap suc (length-values xs)

pub length_pairs : (n : ℕ) (t : Table) → length (values (pairs_below n t)) ≡ sum n (λ (q : ℕ). held (t q))
length_pairs n t = sym (total-length (values (pairs_below n t))) ∙ total-pairs n each t ∙ weight-held n t

pub pairs-fresh : (n : ℕ) → pairs_below n fresh ≡ []
pairs-fresh zero = refl
pairs-fresh (suc n) = pairs-fresh n

-- what a table loses where b holds, and what it keeps, are what it held
pub total-lost : (n : ℕ) (g : ℕ → ℕ) (t : Table) (b : ℕ → Bool)
    → total g (lost n t (λ (q : ℕ). cond (b q) none (t q))) + weight n g (λ (q : ℕ). cond (b q) none (t q)) ≡ weight n g t
unfolding sum
total-lost zero g t b = refl
total-lost (suc n) g t b =
    case (t n)
    (λ e. bool (b n) (λ i. rw (i, e) (omega (arith, total-lost n g t b))) (λ i. rw (i, e) (omega (arith, total-lost n g t b))))
    (λ x e. bool (b n) (λ i. rw (i, e) (omega (arith, total-lost n g t b))) (λ i. rw (i, e) (omega (arith, total-lost n g t b))))
