-- How numbers stand in an output line. Document 01, 'The line program': fields are decimal, without leading zeros, each after a tab.
-- Definitions only. Assumes nothing.
use Rattle.std.specs.Prelude.{true, false, List, [], ◌∷◌, ◌++◌, ℕ, zero, suc, ◌+◌, ◌/◌, ◌%◌, ltb}

-- the digits of n, the highest first; a number below 10 ^ (f + 1)
unfoldable pub digits_up_to : ℕ → ℕ → List ℕ
digits_up_to zero n = (48 + n % 10) ∷ []
digits_up_to (suc f) n = elim (ltb n 10) [ true ↦ (48 + n) ∷ [] | false ↦ digits_up_to f (n / 10) ++ ((48 + n % 10) ∷ []) ]

-- a number of 64 bits has at most 20 digits
abbrev pub digits : ℕ → List ℕ
digits n = digits_up_to 19 n

-- "sequence:value pairs": a tab, a sequence, a colon and its value, for each
unfoldable pub paired : List ℕ → List ℕ → List ℕ
paired [] vs = []
paired (s ∷ ss) [] = []
paired (s ∷ ss) (v ∷ vs) = (9 ∷ digits s) ++ ((58 ∷ digits v) ++ paired ss vs)

-- a tab and a number, for each
unfoldable pub tabbed : List ℕ → List ℕ
tabbed [] = []
tabbed (n ∷ ns) = (9 ∷ digits n) ++ tabbed ns
