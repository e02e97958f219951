-- A line with each fault, by computation. Assumes nothing.
use mathlib.Core.Path.{◌≡◌, refl}
use mathlib.Core.List.{List, [], ◌∷◌}
use Prim.Native.Nat.{ℕ}
use lib.ListN.{length}
use Rattle.line_text.specs.Fields.{field_of, all_digits, number_from}
use Rattle.line_text.specs.Lines.{among, fields_of_letter, parts, numbers, line_of}
use Rattle.line_faults.specs.declared.Fault.{Fault}
use Rattle.line_faults.specs.declared.Fault.TheVariants.{Long, CarriageReturn, Space, Letter, FieldCount, Field, WindowSize, NoWindow}
use Rattle.line_faults.specs.Faults.{occurrences, letter_count_of, fault_of_text, fault_of_line}

-- of a whole line
abbrev whole : List ℕ → Fault
whole line = fault_of_line line (length line)

-- three bytes came, and the line has two places
long : fault_of_line (99 ∷ 99 ∷ []) 3 ≡ Long
unfolding fault_of_line
long = refl

-- c and a carriage return
carriage-return : whole (99 ∷ 13 ∷ []) ≡ CarriageReturn
unfolding fault_of_line fault_of_text occurrences
carriage-return = refl

-- g and 5 with a space between
space : whole (103 ∷ 32 ∷ 53 ∷ []) ≡ Space
unfolding fault_of_line fault_of_text occurrences
space = refl

-- an empty line; x, a tab and 1; ii, a tab and 5
letter : (whole [] ≡ Letter) × (whole (120 ∷ 9 ∷ 49 ∷ []) ≡ Letter) × (whole (105 ∷ 105 ∷ 9 ∷ 53 ∷ []) ≡ Letter)
unfolding fault_of_line fault_of_text occurrences letter_count_of fields_of_letter among
letter = (refl, refl, refl)

-- g alone; l, a tab and 1
field-count : (whole (103 ∷ []) ≡ FieldCount) × (whole (108 ∷ 9 ∷ 49 ∷ []) ≡ FieldCount)
unfolding fault_of_line fault_of_text occurrences letter_count_of fields_of_letter among
field-count = (refl, refl)

-- g, a tab and 05; g, a tab and 4294967296; g, a tab and nothing
field : (whole (103 ∷ 9 ∷ 48 ∷ 53 ∷ []) ≡ Field) × (whole (103 ∷ 9 ∷ 52 ∷ 50 ∷ 57 ∷ 52 ∷ 57 ∷ 54 ∷ 55 ∷ 50 ∷ 57 ∷ 54 ∷ []) ≡ Field) × (whole (103 ∷ 9 ∷ []) ≡ Field)
unfolding fault_of_line fault_of_text occurrences letter_count_of fields_of_letter among line_of parts numbers field_of all_digits number_from
field = (refl, refl, refl)

-- n with 4097, 2 and 1
window-size : whole (110 ∷ 9 ∷ 52 ∷ 48 ∷ 57 ∷ 55 ∷ 9 ∷ 50 ∷ 9 ∷ 49 ∷ []) ≡ WindowSize
unfolding fault_of_line fault_of_text occurrences letter_count_of fields_of_letter among line_of parts numbers field_of all_digits number_from
window-size = refl

-- g and 5; l
no-window : (whole (103 ∷ 9 ∷ 53 ∷ []) ≡ NoWindow) × (whole (108 ∷ []) ≡ NoWindow)
unfolding fault_of_line fault_of_text occurrences letter_count_of fields_of_letter among line_of parts numbers field_of all_digits number_from
no-window = (refl, refl)
