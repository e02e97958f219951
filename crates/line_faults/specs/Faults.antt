-- What is wrong with a line that prints `?`. Document 01, 'The line program': "A line with another letter, a wrong count of fields, or a
-- field not so written or above 4294967295, a larger window_size, or a call other than n before an accepted n prints `?` alone". Of
-- several faults the first in the order below is told. Definitions only. Assumes nothing.
use Rattle.std.specs.Prelude.{Bool, cond, ◌&&◌, Option, None, Some, List, [], ◌∷◌, ℕ, suc, eqb, ltb, length, take, get_or}
use Rattle.line_text.specs.Lines.{Line, fields_of_letter, line_of}
use Rattle.line_faults.specs.declared.Fault.{Fault}
use Rattle.line_faults.specs.declared.Fault.TheVariants.{Long, CarriageReturn, Space, Letter, FieldCount, Field, WindowSize, NoWindow}

-- how often a byte stands among others
unfoldable pub occurrences : ℕ → List ℕ → ℕ
occurrences b [] = 0
occurrences b (c ∷ cs) = cond (eqb c b) (suc (occurrences b cs)) (occurrences b cs)

abbrev pub has : ℕ → List ℕ → Bool
has b bs = ltb 0 (occurrences b bs)

-- how many fields the line's letter takes, which stands alone or before a tab; none for another letter, for none, and for more than one
-- byte in its place
unfoldable pub letter_count_of : List ℕ → Option ℕ
letter_count_of [] = None
letter_count_of (b ∷ []) = fields_of_letter b
letter_count_of (b ∷ c ∷ bs) = cond (eqb c 9) (fields_of_letter b) None

-- "a larger window_size": n, and above 4096
abbrev pub is_larger : Line → Bool
is_larger l = eqb l.letter 110 && ltb 4096 (get_or l.fields 0 0)

-- a line whose letter has its count of fields
abbrev pub fault_of_parsed : Option Line → Fault
-- "a field not so written or above 4294967295"
fault_of_parsed None = Field
-- "a larger window_size"; "or a call other than n before an accepted n": nothing else is left
fault_of_parsed (Some l) = cond (is_larger l) WindowSize NoWindow

-- a line whose letter takes so many fields
abbrev pub fault_of_fields : Option ℕ → List ℕ → Fault
-- "A line with another letter"
fault_of_fields None bs = Letter
-- "a wrong count of fields": each stands after a tab
fault_of_fields (Some k) bs = cond (eqb (occurrences 9 bs) k) (fault_of_parsed (line_of bs)) FieldCount

-- "Lines end in a line feed", and "fields parted by tabs": no carriage return before it, and no space
unfoldable pub fault_of_text : List ℕ → Fault
fault_of_text bs = cond (has 13 bs) CarriageReturn (cond (has 32 bs) Space (fault_of_fields (letter_count_of bs) bs))

-- the first `n` bytes of a line; if more came than it has places for, the line is longer than any call
unfoldable pub fault_of_line : List ℕ → ℕ → Fault
fault_of_line line n = cond (ltb (length line) n) Long (fault_of_text (take n line))
