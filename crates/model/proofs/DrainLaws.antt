-- Laws of `drain`: positions in two parts, nothing is lost, nothing outside its positions changes, with enough it empties them, and how
-- many it takes out. Assumes nothing.
use mathlib.Core.Path.{◌≡◌, refl, sym, ap, ◌∙◌}
use mathlib.Core.Option.{none, some}
use mathlib.Core.List.{[], ◌∷◌, ◌++◌}
use Prim.Native.Nat.{ℕ, zero, suc, ◌+◌, ◌-◌, ◌*◌, ◌≤◌, ◌<◌}
use native.Mathlib.Omega.{arith}
use native.Mathlib.Decide.{dec_lt, ℕ_discrete}
use lib.ListN.{length}
use Rattle.model.specs.Table.{Pair, Table, sum, held, at}
use Rattle.model.specs.Positions.{Drained, drained, drain}
use Rattle.model.proofs.SumLaws.{case, at_same, at_other, sum-at, weigh, weight, total, each, held-le, weight-held, total-length}

-- ---- one step, by what stands at p

pub drain-free : (n p k : ℕ) (t : Table) → t p ≡ none → drain (suc n) p (suc k) t ≡ drain n (suc p) (suc k) t
unfolding drain
drain-free n p k t e = rw (e, drain)

pub drain-held : (n p k : ℕ) (t : Table) (x : Pair) → t p ≡ some x
    → drain (suc n) p (suc k) t ≡ drained (drain n (suc p) k (at t p none)).left (x.value ∷ (drain n (suc p) k (at t p none)).out)
unfolding drain
drain-held n p k t x e = rw (e, drain)

pub drain-end : (p k : ℕ) (t : Table) → drain 0 p k t ≡ drained t []
unfolding drain
drain-end p k t = refl

pub drain-spent : (n p : ℕ) (t : Table) → drain n p 0 t ≡ drained t []
unfolding drain
drain-spent zero p t = refl
drain-spent (suc n) p t = refl

-- ---- m positions, and then the n after them

-- of k pairs, what d has not taken out yet, at the n positions from e upwards
abbrev pub drain_then : ℕ → ℕ → ℕ → Drained → Drained
drain_then n e k d =
    let r = drain n e (k - length d.out) d.left in
    drained r.left (d.out ++ r.out)

pub drain-append : (m n p k : ℕ) (t : Table) (s e : ℕ) → s ≡ m + n → e ≡ m + p → drain s p k t ≡ drain_then n e k (drain m p k t)
drain-append zero n p k t s e a b =
    let all : k ≡ k - 0 = omega arith in
    let count : s ≡ n = omega arith in
    let from : p ≡ e = omega arith in
    (λ i. drain (count i) (from i) (all i) t) ∙ ap (drain_then n e k) (sym (drain-end p k t))
drain-append (suc m) n p zero t s e a b =
    drain-spent s p t ∙ ap (λ (r : Drained). drained r.left ([] ++ r.out)) (sym (drain-spent n e t)) ∙ ap (drain_then n e 0) (sym (drain-spent (suc m) p t))
drain-append (suc m) n p (suc k) t s e a b =
    let count : s ≡ suc (m + n) = omega arith in
    ap (λ (x : ℕ). drain x p (suc k) t) count
    ∙ case (t p)
    (λ f. drain-free (m + n) p k t f ∙ drain-append m n (suc p) (suc k) t (m + n) e refl (omega arith) ∙ ap (drain_then n e (suc k)) (sym (drain-free m p k t f)))
    (λ x f.
    let d = drain m (suc p) k (at t p none) in
    let left : k - length d.out ≡ suc k - length (x.value ∷ d.out) = omega arith in
    drain-held (m + n) p k t x f
    ∙ ap (λ (r : Drained). drained r.left (x.value ∷ r.out)) (drain-append m n (suc p) k (at t p none) (m + n) e refl (omega arith))
    ∙ ap (λ (y : ℕ). drained (drain n e y d.left).left ((x.value ∷ d.out) ++ (drain n e y d.left).out)) left
    ∙ ap (drain_then n e (suc k)) (sym (drain-held m p k t x f)))

-- ---- nothing is lost

pub drain-keeps : (cap : ℕ) (g : ℕ → ℕ) (n p k : ℕ) (t : Table) → p + n ≤ cap
    → weight cap g (drain n p k t).left + total g (drain n p k t).out ≡ weight cap g t
unfolding drain
drain-keeps cap g zero p k t h = omega arith
drain-keeps cap g (suc n) p zero t h = omega arith
drain-keeps cap g (suc n) p (suc k) t h =
    case (t p)
    (λ e. rw (drain-free n p k t e) (drain-keeps cap g n (suc p) (suc k) t (omega arith)))
    (λ x e. rw (drain-held n p k t x e)
    (omega (arith, drain-keeps cap g n (suc p) k (at t p none) (omega arith), sum-at cap (weigh g) t p none (omega arith), ap (weigh g) e)))

pub drain-count : (cap n p k : ℕ) (t : Table) → p + n ≤ cap
    → sum cap (λ (q : ℕ). held ((drain n p k t).left q)) + length (drain n p k t).out ≡ sum cap (λ (q : ℕ). held (t q))
drain-count cap n p k t h =
    let d = drain n p k t in
    omega (arith, drain-keeps cap each n p k t h, weight-held cap d.left, weight-held cap t, total-length d.out)

-- ---- which positions change

pub drain-below : (n p k : ℕ) (t : Table) (q : ℕ) → q < p → (drain n p k t).left q ≡ t q
unfolding drain
drain-below zero p k t q h = refl
drain-below (suc n) p zero t q h = refl
drain-below (suc n) p (suc k) t q h =
    case (t p)
    (λ e. rw (drain-free n p k t e) (drain-below n (suc p) (suc k) t q (omega arith)))
    (λ x e. rw (drain-held n p k t x e) (drain-below n (suc p) k (at t p none) q (omega arith) ∙ at_other t p none q (λ d. omega arith)))

pub drain-above : (n p k : ℕ) (t : Table) (q : ℕ) → p + n ≤ q → (drain n p k t).left q ≡ t q
unfolding drain
drain-above zero p k t q h = refl
drain-above (suc n) p zero t q h = refl
drain-above (suc n) p (suc k) t q h =
    case (t p)
    (λ e. rw (drain-free n p k t e) (drain-above n (suc p) (suc k) t q (omega arith)))
    (λ x e. rw (drain-held n p k t x e) (drain-above n (suc p) k (at t p none) q (omega arith) ∙ at_other t p none q (λ d. omega arith)))

-- a drain of page x leaves page g
pub drain-other-page : (x g k : ℕ) (t : Table) (q : ℕ) → (g ≡ x → ⊥) → 64 * g ≤ q → q < 64 * g + 64 → (drain 64 (64 * x) k t).left q ≡ t q
drain-other-page x g k t q n a b = elim (dec_lt g x) [
  | yes y ↦ drain-below 64 (64 * x) k t q (omega arith)
  | no y ↦ drain-above 64 (64 * x) k t q (omega arith)
]

at_none : (t : Table) (p q : ℕ) → t q ≡ none → at t p none q ≡ none
at_none t p q h = elim (ℕ_discrete q p) [ yes i ↦ rw i (at_same t p none) | no i ↦ at_other t p none q i ∙ h ]

-- what is free stays free
pub drain-none : (n p k : ℕ) (t : Table) (q : ℕ) → t q ≡ none → (drain n p k t).left q ≡ none
unfolding drain
drain-none zero p k t q h = h
drain-none (suc n) p zero t q h = h
drain-none (suc n) p (suc k) t q h =
    case (t p)
    (λ e. rw (drain-free n p k t e) (drain-none n (suc p) (suc k) t q h))
    (λ x e. rw (drain-held n p k t x e) (drain-none n (suc p) k (at t p none) q (at_none t p q h)))

pub drain-less : (n p k : ℕ) (t : Table) (q : ℕ) → held ((drain n p k t).left q) ≤ held (t q)
drain-less n p k t q =
    case (t q)
    (λ e. omega (arith, ap held (drain-none n p k t q e)))
    (λ x e. omega (arith, held-le ((drain n p k t).left q), ap held e))

-- with k enough, all n positions are emptied
pub drain-inside : (n p k : ℕ) (t : Table) (q : ℕ) → n ≤ k → p ≤ q → q < p + n → (drain n p k t).left q ≡ none
unfolding drain
drain-inside zero p k t q h a b = absurd (omega arith)
drain-inside (suc n) p zero t q h a b = absurd (omega arith)
drain-inside (suc n) p (suc k) t q h a b =
    case (t p)
    (λ e. rw (drain-free n p k t e) (elim (ℕ_discrete q p) [
      | yes i ↦ drain-none n (suc p) (suc k) t q (ap t i ∙ e)
      | no i ↦ drain-inside n (suc p) (suc k) t q (omega arith) (omega arith) (omega arith)
    ]))
    (λ x e. rw (drain-held n p k t x e) (elim (ℕ_discrete q p) [
      | yes i ↦ drain-none n (suc p) k (at t p none) q (rw i (at_same t p none))
      | no i ↦ drain-inside n (suc p) k (at t p none) q (omega arith) (omega arith) (omega arith)
    ]))

-- where fewer than k are taken out, all n positions are emptied
pub drain_rest : (n p k : ℕ) (t : Table) (q : ℕ) → length (drain n p k t).out < k → p ≤ q → q < p + n → (drain n p k t).left q ≡ none
unfolding drain
drain_rest zero p k t q h a b = absurd (omega arith)
drain_rest (suc n) p zero t q h a b = absurd (omega arith)
drain_rest (suc n) p (suc k) t q h a b =
    case (t p)
    (λ e. rw (drain-free n p k t e) (elim (ℕ_discrete q p) [
      | yes i ↦ drain-none n (suc p) (suc k) t q (ap t i ∙ e)
      | no i ↦ drain_rest n (suc p) (suc k) t q (rw (drain-free n p k t e) at h) (omega arith) (omega arith)
    ]))
    (λ x e. rw (drain-held n p k t x e) (elim (ℕ_discrete q p) [
      | yes i ↦ drain-none n (suc p) k (at t p none) q (rw i (at_same t p none))
      | no i ↦ let s = rw (drain-held n p k t x e) at h in drain_rest n (suc p) k (at t p none) q (omega (arith, s)) (omega arith) (omega arith)
    ]))

-- ---- how many are taken out

pub drain-most : (n p k : ℕ) (t : Table) → length (drain n p k t).out ≤ k
unfolding drain
drain-most zero p k t = omega arith
drain-most (suc n) p zero t = omega arith
drain-most (suc n) p (suc k) t =
    case (t p)
    (λ e. rw (drain-free n p k t e) (drain-most n (suc p) (suc k) t))
    (λ x e. rw (drain-held n p k t x e) (omega (arith, drain-most n (suc p) k (at t p none))))

-- one at least, if there is one and k is not 0
pub drain-least : (n p k : ℕ) (t : Table) (q : ℕ) → p ≤ q → q < p + n → 0 < held (t q) → 0 < k → 0 < length (drain n p k t).out
unfolding drain
drain-least zero p k t q a b h l = absurd (omega arith)
drain-least (suc n) p zero t q a b h l = absurd (omega arith)
drain-least (suc n) p (suc k) t q a b h l =
    case (t p)
    (λ e. rw (drain-free n p k t e) (elim (ℕ_discrete q p) [
      | yes i ↦ absurd (omega (arith, ap held (ap t i ∙ e)))
      | no i ↦ drain-least n (suc p) (suc k) t q (omega arith) (omega arith) h l
    ]))
    (λ x e. rw (drain-held n p k t x e) (omega arith))
