-- What the functions give, in the words of the definitions. Definitions only. Assumes nothing.
use Rattle.std.specs.Prelude.{◌≡◌, unwrap_or, List, [], ◌∷◌, ℕ, ◌+◌, ◌≤◌, ◌<◌, length, get_or, take}
use Rattle.line_text.specs.declared.Fields.{Fields}
use Rattle.line_text.specs.Lines.{Line, line, fields_of_letter}
use Rattle.line_text.specs.PrintContracts.{Puts}

-- how many fields a letter takes; 4 for another letter
abbrev pub field_count_of : ℕ → ℕ
field_count_of b = unwrap_or (fields_of_letter b) 4

-- the fields that the letter takes
abbrev pub said_by : Fields → Line
said_by f = line f.letter (take (field_count_of f.letter) (f.first ∷ f.second ∷ f.third ∷ []))

-- the first such byte from `from` on
pub record NextByte (bytes : List ℕ) (from byte r : ℕ) : Type 0 where
  pub from_le : from ≤ r
  pub le_length : r ≤ length bytes
  pub before : (k : ℕ) → from ≤ k → k < r → get_or bytes k 0 ≡ byte → ⊥
  pub found : r < length bytes → get_or bytes r 0 ≡ byte

-- a line that comes in parts: `part` after the first `have` bytes of `line`; one more than its places if it has no place for them
pub record Appends (line : List ℕ) (have : ℕ) (part : List ℕ) (r : ℕ) (line' : List ℕ) : Type 0 where
  pub kept : have + length part ≤ length line → Puts have part line r line'
  pub long : length line < have + length part → r ≡ length line + 1
