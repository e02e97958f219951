-- How a field is written. Document 01, 'The line program': "decimal, no leading zeros", at most 4294967295. Definitions only.
-- Assumes nothing.
use Rattle.std.specs.Prelude.{Bool, true, false, cond, ◌&&◌, Option, None, Some, List, [], ◌∷◌, ℕ, ◌+◌, ◌-◌, ◌*◌, leb, eqb}

-- the byte of a decimal digit: 0 is 48, 9 is 57
abbrev pub is_digit : ℕ → Bool
is_digit b = leb 48 b && leb b 57

unfoldable pub all_digits : List ℕ → Bool
all_digits [] = true
all_digits (b ∷ bs) = is_digit b && all_digits bs

-- the number that digits write after those that wrote n
unfoldable pub number_from : ℕ → List ℕ → ℕ
number_from n [] = n
number_from n (b ∷ bs) = number_from (n * 10 + (b - 48)) bs

abbrev pub number : List ℕ → ℕ
number bs = number_from 0 bs

-- "no leading zeros": 0 itself, or digits that do not begin with 0
abbrev pub is_plain : List ℕ → Bool
is_plain [] = false
is_plain (b ∷ []) = true
is_plain (b ∷ c ∷ bs) = cond (eqb b 48) false true

-- "or a field not so written or above 4294967295"
unfoldable pub field_of : List ℕ → Option ℕ
field_of bs = cond (is_plain bs && (all_digits bs && leb (number bs) 4294967295)) (Some (number bs)) None
