-- What the functions that print leave in their buffer. Definitions only. Assumes nothing.
use Rattle.std.specs.Prelude.{◌≡◌, List, ◌++◌, ℕ, ◌+◌, length, take}

-- bytes were put from `at` on, and r is the place after them
pub record Puts (at : ℕ) (bytes : List ℕ) (out : List ℕ) (r : ℕ) (out' : List ℕ) : Type 0 where
  pub end : r ≡ at + length bytes
  pub filled : take r out' ≡ take at out ++ bytes
