-- An answer that says whether something holds: of what is known, of what is the same as something else, of two numbers. Assumes nothing.
use mathlib.Core.Path.{◌≡◌, sym}
use mathlib.Core.Bool.{Bool, true, false, true≢false}
use Prim.Native.Nat.{ℕ, ◌<◌}
use lib.Dec.{ltb, eqb}
use borrow.Author.Tests.{eqb-true, eqb-false, ltb-true, ltb-false}
use native.Mathlib.Omega.{arith}
use Rattle.page_check.specs.Promises.{Decides}

pub decides-yes : {A : Type 0} → A → Decides A true
decides-yes a = record { holds = λ e. a; fails = λ e. absurd (true≢false e) }

pub decides-no : {A : Type 0} → (A → ⊥) → Decides A false
decides-no h = record { holds = λ e. absurd (true≢false (sym e)); fails = λ e a. h a }

-- the same of what follows from it and gives it
pub decides-same : {A B : Type 0} (r : Bool) → Decides A r → (A → B) → (B → A) → Decides B r
decides-same r d f g = record { holds = λ e. f (d.holds e); fails = λ e b. d.fails e (g b) }

-- ---- numbers

pub decides_eq : (a b : ℕ) → Decides (a ≡ b) (eqb a b)
decides_eq a b = record { holds = eqb-true a b; fails = eqb-false a b }

pub decides-lt : (a b : ℕ) → Decides (a < b) (ltb a b)
decides-lt a b = record { holds = ltb-true a b; fails = λ e l. omega (arith, ltb-false a b e) }
