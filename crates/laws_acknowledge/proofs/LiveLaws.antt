-- Which sequences are live after a call: insert and remove change no sequence but their own, also where another has its position;
-- exchange changes none; remove_range drops those whose positions it covers. Assumes nothing.
use mathlib.Core.Path.{◌≡◌, refl, sym, ap, ◌∙◌}
use mathlib.Core.Bool.{Bool, true, false, not, ◌||◌, or-true, true≢false}
use mathlib.Core.Option.{Option, none, some}
use Prim.Native.Nat.{ℕ}
use native.Mathlib.Decide.{ℕ_discrete}
use lib.Dec.{eqb}
use borrow.Author.Tests.{eqb-true, eq-eqb, ne_eqb}
use Rattle.words.proofs.CaseLaws.{bool}
use Rattle.window.specs.Memory.{position}
use Rattle.model.specs.Table.{Pair, Table, at, holds, finds, put_at, exchange_at, remove_at, covers, empty_range}
use Rattle.model.specs.Point.{is_live}
use Rattle.model.proofs.SumLaws.{at_same, at_other}
use Rattle.laws_acknowledge.specs.Increments.{inserted, exchanged, removed}

-- ---- one position

-- one pair has one sequence
pub finds-once : (a b : ℕ) (o : Option Pair) → finds a o ≡ true → finds b o ≡ true → a ≡ b
finds-once a b none f g = absurd (true≢false (sym f))
finds-once a b (some e) f g = sym (eqb-true e.sequence a f) ∙ eqb-true e.sequence b g

put-finds-other : (s v q : ℕ) → (s ≡ q → ⊥) → (o : Option Pair) → finds q (put_at s v o) ≡ finds q o
put-finds-other s v q n none = ne_eqb s q n
put-finds-other s v q n (some e) = bool (eqb e.sequence s) (λ i. rw i (ap (λ (x : ℕ). eqb x q) (sym (eqb-true e.sequence s i)))) (λ i. rw i)

put-finds-own : (s v : ℕ) (o : Option Pair) → finds s (put_at s v o) ≡ (not (holds o) || finds s o)
put-finds-own s v none = eq-eqb s s refl
put-finds-own s v (some e) = bool (eqb e.sequence s) (λ i. rw i (eq-eqb s s refl)) (λ i. rw i i)

exchange-finds : (s v q : ℕ) (o : Option Pair) → finds q (exchange_at s v o) ≡ finds q o
exchange-finds s v q none = refl
exchange-finds s v q (some e) = bool (eqb e.sequence s) (λ i. rw i (ap (λ (x : ℕ). eqb x q) (sym (eqb-true e.sequence s i)))) (λ i. rw i)

remove-finds-other : (s q : ℕ) → (s ≡ q → ⊥) → (o : Option Pair) → finds q (remove_at s o) ≡ finds q o
remove-finds-other s q n none = refl
remove-finds-other s q n (some e) = bool (eqb e.sequence s)
    (λ i. rw i (sym (ne_eqb e.sequence q (λ h. n (sym (eqb-true e.sequence s i) ∙ h)))))
    (λ i. rw i)

remove-finds-own : (s : ℕ) (o : Option Pair) → finds s (remove_at s o) ≡ false
remove-finds-own s none = refl
remove-finds-own s (some e) = bool (eqb e.sequence s) (λ i. rw i) (λ i. rw i i)

-- ---- tables

module _ (size : ℕ) (t : Table) (s : ℕ) where
  change-other : (q : ℕ) (f : Option Pair → Option Pair) → ((o : Option Pair) → finds q (f o) ≡ finds q o)
      → is_live size (at t (position size s) (f (t (position size s)))) q ≡ is_live size t q
  change-other q f h = elim (ℕ_discrete (position size q) (position size s)) [
    | yes e ↦ rw e (ap (finds q) (at_same t (position size s) (f (t (position size s)))) ∙ h (t (position size s)))
    | no n ↦ ap (finds q) (at_other t (position size s) (f (t (position size s))) (position size q) n)
  ]

  change-own : (o : Option Pair) → is_live size (at t (position size s) o) s ≡ finds s o
  change-own o = ap (finds s) (at_same t (position size s) o)

  -- insert
  pub insert-other : (v q : ℕ) → (s ≡ q → ⊥) → is_live size (inserted size t s v) q ≡ is_live size t q
  insert-other v q n = change-other q (put_at s v) (put-finds-other s v q n)

  pub insert-own : (v : ℕ) → is_live size (inserted size t s v) s ≡ (not (holds (t (position size s))) || is_live size t s)
  insert-own v = change-own (put_at s v (t (position size s))) ∙ put-finds-own s v (t (position size s))

  -- what was live stays live
  pub insert-keeps : (v q : ℕ) → is_live size t q ≡ true → is_live size (inserted size t s v) q ≡ true
  insert-keeps v q h = elim (ℕ_discrete s q) [
    | yes e ↦ ap (is_live size (inserted size t s v)) (sym e) ∙ insert-own v
        ∙ ap (λ (b : Bool). not (holds (t (position size s))) || b) (ap (is_live size t) e ∙ h) ∙ or-true (not (holds (t (position size s))))
    | no n ↦ insert-other v q n ∙ h
  ]

  -- exchange
  pub exchange-live : (v q : ℕ) → is_live size (exchanged size t s v) q ≡ is_live size t q
  exchange-live v q = change-other q (exchange_at s v) (exchange-finds s v q)

  -- remove
  pub remove-other : (q : ℕ) → (s ≡ q → ⊥) → is_live size (removed size t s) q ≡ is_live size t q
  remove-other q n = change-other q (remove_at s) (remove-finds-other s q n)

  pub remove-own : is_live size (removed size t s) s ≡ false
  remove-own = change-own (remove_at s (t (position size s))) ∙ remove-finds-own s (t (position size s))

  -- what was not live is not live after
  pub remove-drops : (q : ℕ) → is_live size t q ≡ false → is_live size (removed size t s) q ≡ false
  remove-drops q h = elim (ℕ_discrete s q) [ yes e ↦ rw (← e) remove-own | no n ↦ remove-other q n ∙ h ]

-- remove_range
module _ (size : ℕ) (t : Table) (cap start count q : ℕ) where
  pub range-covered : covers cap start count (position size q) ≡ true → is_live size (empty_range cap start count t) q ≡ false
  range-covered i = rw i

  pub range_other : covers cap start count (position size q) ≡ false → is_live size (empty_range cap start count t) q ≡ is_live size t q
  range_other i = rw i

  pub range-drops : is_live size t q ≡ false → is_live size (empty_range cap start count t) q ≡ false
  range-drops h = bool (covers cap start count (position size q)) (λ i. range-covered i) (λ i. range_other i ∙ h)
