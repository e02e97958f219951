-- The first number at which a test holds. Every search of the window is one of these two definitions at a test of its own.
-- Definitions only; their laws are in FirstLaws. Assumes nothing.
use Rattle.std.specs.Prelude.{Bool, true, false, cond, ℕ, zero, suc, ◌-◌, ltb}

-- Of the n numbers from k upwards, the first at which P holds; n + k, the number after them, if it holds at none.
unfoldable pub first_from_of : (ℕ → Bool) → ℕ → ℕ → ℕ
first_from_of P zero k = k
first_from_of P (suc n) k = elim (P k) [ true ↦ k | false ↦ first_from_of P n (suc k) ]

-- Of the n numbers below n, from k upwards and then round from 0, the first at which P holds; n if it holds at none.
unfoldable pub first_round : (ℕ → Bool) → ℕ → ℕ → ℕ
first_round P n k =
    cond (ltb (first_from_of P (n - k) k) n) (first_from_of P (n - k) k)
    (cond (ltb (first_from_of P k 0) k) (first_from_of P k 0)
    n)
