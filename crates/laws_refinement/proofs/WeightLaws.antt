-- The weight of pairs, in a list and in a table: one weight f of pairs serves every count with repeats, f 1 at what is counted.
-- Assumes nothing.
use mathlib.Core.Path.{◌≡◌, refl, sym, ap, ◌∙◌}
use mathlib.Core.Bool.{◌&&◌}
use mathlib.Core.Option.{Option, none, some}
use mathlib.Core.List.{List, [], ◌∷◌}
use Prim.Native.Nat.{ℕ, zero, suc, ◌+◌, ◌≤◌, ◌<◌}
use native.Mathlib.Omega.{arith}
use lib.Dec.{eqb}
use lib.ListN.{length}
use Rattle.model.specs.Table.{Pair, Table, sum}
use Rattle.model.specs.Demand3.{one, copies, values, pairs_below}
use Rattle.model.proofs.SumLaws.{case, total}
use Rattle.laws_soundness.proofs.SumLaws.{sum-suc, sum-add, sum-none, sum-but}

-- ---- sums

-- at most one summand that is not 0
pub sum-only : (n : ℕ) (f : ℕ → ℕ) (p : ℕ) → p < n → ((q : ℕ) → q < n → (q ≡ p → ⊥) → f q ≡ 0) → sum n f ≡ f p
sum-only n f p l h = omega (arith, sum-but n f (λ (q : ℕ). 0) p l h, sum-none n (λ (q : ℕ). 0) (λ q l. refl))

-- sums of sums, in the other order
pub sum-swap : (m n : ℕ) (f : ℕ → ℕ → ℕ) → sum m (λ (a : ℕ). sum n (λ (b : ℕ). f a b)) ≡ sum n (λ (b : ℕ). sum m (λ (a : ℕ). f a b))
unfolding sum
sum-swap zero n f = sym (sum-none n (λ (b : ℕ). 0) (λ b l. refl))
sum-swap (suc m) n f =
    ap (λ (x : ℕ). x + sum n (λ (b : ℕ). f m b)) (sum-swap m n f) ∙ sym (sum-add n (λ (b : ℕ). sum m (λ (a : ℕ). f a b)) (λ (b : ℕ). f m b))

-- summands from n on, and below m, are 0
pub sum-skip : (d n m : ℕ) (f : ℕ → ℕ) → m ≡ n + d → ((q : ℕ) → n ≤ q → q < m → f q ≡ 0) → sum m f ≡ sum n f
sum-skip zero n m f e h = let i : m ≡ n = omega arith in ap (λ (k : ℕ). sum k f) i
sum-skip (suc d) n m f e h =
    let i : m ≡ suc (n + d) = omega arith in
    let below = sum-skip d n (n + d) f refl (λ q a b. h q a (omega arith)) in
    ap (λ (k : ℕ). sum k f) i ∙ omega (arith, sum-suc (n + d) f, below, h (n + d) (omega arith) (omega arith))

-- ---- weights

abbrev pub weights : (Pair → ℕ) → List Pair → ℕ
weights f [] = 0
weights f (x ∷ xs) = f x + weights f xs

abbrev pub weighed : (Pair → ℕ) → Option Pair → ℕ
weighed f none = 0
weighed f (some e) = f e

-- 1 at this sequence and value alone, and 1 everywhere
abbrev pub is_pair : ℕ → ℕ → Pair → ℕ
is_pair s v e = one (eqb e.sequence s && eqb e.value v)

abbrev pub each_pair : Pair → ℕ
each_pair e = 1

pub weights-copies : (s v : ℕ) (l : List Pair) → weights (is_pair s v) l ≡ copies s v l
weights-copies s v [] = refl
weights-copies s v (x ∷ xs) = omega (arith, weights-copies s v xs)

pub weights-length : (l : List Pair) → weights each_pair l ≡ length l
weights-length [] = refl
weights-length (x ∷ xs) = omega (arith, weights-length xs)

pub weights-values : (g : ℕ → ℕ) (l : List Pair) → weights (λ (e : Pair). g e.value) l ≡ total g (values l)
weights-values g [] = refl
weights-values g (x ∷ xs) = omega (arith, weights-values g xs)

-- the pairs of a table
pub weights-below : (n : ℕ) (f : Pair → ℕ) (t : Table) → weights f (pairs_below n t) ≡ sum n (λ (q : ℕ). weighed f (t q))
unfolding sum
weights-below zero f t = refl
weights-below (suc n) f t = case (t n) (λ e. rw e (omega (arith, weights-below n f t))) (λ x e. rw e (omega (arith, weights-below n f t)))
