-- The values at positions in a row: how many, what a drain brings out of them and leaves; and so of one page. Assumes nothing.
use mathlib.Core.Path.{◌≡◌, refl, sym, ap, ◌∙◌}
use mathlib.Core.Bool.{true, false}
use mathlib.Core.Option.{none, some}
use mathlib.Core.List.{List, [], ◌∷◌}
use Prim.Native.Nat.{ℕ, zero, suc, ◌+◌, ◌*◌, ◌≤◌, ◌<◌}
use native.Mathlib.Omega.{arith}
use lib.ListN.{length, take, drop}
use borrow.Author.Tests.{ltb-true, ltb-false}
use Rattle.model.specs.Table.{Pair, Table, sum, held, at}
use Rattle.model.specs.Positions.{drain, in_page, page_holds}
use Rattle.model.proofs.SumLaws.{case, sum-zero, sum_first, at_same, at_other, no_length}
use Rattle.model.proofs.DrainLaws.{drain-free, drain-held, drain-below, drain-other-page}
use Rattle.laws_visits.specs.Queue.{values_from, page_values}

-- ---- by what stands at the first position

values-end : (p : ℕ) (t : Table) → values_from 0 p t ≡ []
unfolding values_from
values-end p t = refl

values-free : (n p : ℕ) (t : Table) → t p ≡ none → values_from (suc n) p t ≡ values_from n (suc p) t
unfolding values_from
values-free n p t e = rw (e, values_from)

values-held : (n p : ℕ) (t : Table) (x : Pair) → t p ≡ some x → values_from (suc n) p t ≡ x.value ∷ values_from n (suc p) t
unfolding values_from
values-held n p t x e = rw (e, values_from)

-- ---- the same pairs there, the same values

values_same : (n p : ℕ) (s t : Table) → ((q : ℕ) → p ≤ q → q < p + n → s q ≡ t q) → values_from n p s ≡ values_from n p t
values_same zero p s t h = values-end p s ∙ sym (values-end p t)
values_same (suc n) p s t h =
    let rest = values_same n (suc p) s t (λ q a b. h q (omega arith) (omega arith)) in
    let here = h p (omega arith) (omega arith) in
    case (t p)
    (λ e. values-free n p s (here ∙ e) ∙ rest ∙ sym (values-free n p t e))
    (λ x e. values-held n p s x (here ∙ e) ∙ ap (λ (l : List ℕ). x.value ∷ l) rest ∙ sym (values-held n p t x e))

-- ---- as many as there are pairs

values-count : (n p : ℕ) (t : Table) (f : ℕ → ℕ) → ((j : ℕ) → f j ≡ held (t (p + j))) → length (values_from n p t) ≡ sum n f
values-count zero p t f h = rw (values-end p t) (sym (sum-zero 0 f (λ q l. absurd (omega arith))))
values-count (suc n) p t f h =
    let next : (j : ℕ) → suc p + j ≡ p + suc j = λ j. omega arith in
    let start : p + 0 ≡ p = omega arith in
    let rest = values-count n (suc p) t (λ (j : ℕ). f (suc j)) (λ j. h (suc j) ∙ ap (λ (q : ℕ). held (t q)) (sym (next j))) in
    let first : f 0 ≡ held (t p) = h 0 ∙ ap (λ (q : ℕ). held (t q)) start in
    case (t p)
    (λ e. rw (values-free n p t e) (omega (arith, rest, first, ap held e, sum_first n f)))
    (λ x e. rw (values-held n p t x e) (omega (arith, rest, first, ap held e, sum_first n f)))

-- ---- what a drain brings out, and what it leaves

-- what is taken out at p changes nothing after it
values-after : (n p : ℕ) (t : Table) → values_from n (suc p) (at t p none) ≡ values_from n (suc p) t
values-after n p t = values_same n (suc p) (at t p none) t (λ q a b. at_other t p none q (λ d. omega arith))

pub drain-brings : (n p k : ℕ) (t : Table) → (drain n p k t).out ≡ take k (values_from n p t)
unfolding drain
drain-brings zero p zero t = refl
drain-brings zero p (suc k) t = rw (values-end p t)
drain-brings (suc n) p zero t = refl
drain-brings (suc n) p (suc k) t =
    case (t p)
    (λ e. rw (drain-free n p k t e, values-free n p t e) (drain-brings n (suc p) (suc k) t))
    (λ x e. rw (drain-held n p k t x e, values-held n p t x e)
    (ap (λ (l : List ℕ). x.value ∷ l) (drain-brings n (suc p) k (at t p none) ∙ ap (take k) (values-after n p t))))

pub drain-leaves : (n p k : ℕ) (t : Table) → values_from n p (drain n p k t).left ≡ drop k (values_from n p t)
unfolding drain
drain-leaves zero p zero t = refl
drain-leaves zero p (suc k) t = rw (values-end p t)
drain-leaves (suc n) p zero t = refl
drain-leaves (suc n) p (suc k) t =
    case (t p)
    (λ e. rw (drain-free n p k t e, values-free n p t e)
    (values-free n p _ (drain-below n (suc p) (suc k) t p (omega arith) ∙ e) ∙ drain-leaves n (suc p) (suc k) t))
    (λ x e. rw (drain-held n p k t x e, values-held n p t x e)
    (values-free n p _ (drain-below n (suc p) k (at t p none) p (omega arith) ∙ at_same t p none)
    ∙ drain-leaves n (suc p) k (at t p none) ∙ ap (drop k) (values-after n p t)))

-- ---- one page

page-count : (t : Table) (g : ℕ) → length (page_values t g) ≡ in_page t g
unfolding in_page
page-count t g = values-count 64 (64 * g) t (λ (j : ℕ). held (t (64 * g + j))) (λ j. refl)

pub page-none : (t : Table) (g : ℕ) → page_holds t g ≡ false → page_values t g ≡ []
page-none t g e = no_length (page_values t g) (omega (arith, page-count t g, ltb-false 0 (in_page t g) e))

pub page-some : (t : Table) (g : ℕ) → page_holds t g ≡ true → 0 < length (page_values t g)
page-some t g e = omega (arith, page-count t g, ltb-true 0 (in_page t g) e)

-- a drain of page x leaves the values of another page
pub page-other : (x b : ℕ) (t : Table) (g : ℕ) → (g ≡ x → ⊥) → page_values (drain 64 (64 * x) b t).left g ≡ page_values t g
page-other x b t g n = values_same 64 (64 * g) (drain 64 (64 * x) b t).left t (λ q a e. drain-other-page x g b t q n a e)
