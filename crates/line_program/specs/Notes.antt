-- What is noted of the lines, for the message to the one who wrote them. Definitions only. Assumes nothing.
use Rattle.std.specs.Prelude.{ℕ, ◌+◌, ◌%◌, ◌^◌, cond, ◌&&◌, Option, None, Some, is_none, List, [], ◌∷◌, length, ◌==◌, nat_lt, slice_index}
use Rattle.model.specs.Window.{Window}
use Rattle.line_faults.specs.declared.Fault.{Fault}
use Rattle.line_faults.specs.declared.Fault.TheVariants.{Long}
use Rattle.line_faults.specs.Faults.{fault_of_text}
use Rattle.line_program.specs.declared.notes.Notes.{Notes}
use Rattle.line_program.specs.declared.notes.UnknownLine.{UnknownLine}
use Rattle.line_program.specs.Program.{line_does}

abbrev pub notes : ℕ → Option UnknownLine → Notes
notes lines unknown = record { lines = lines; unknown = unknown }

abbrev pub unknown_line_at : ℕ → Fault → UnknownLine
unknown_line_at number fault = record { number = number; fault = fault }

-- before the first line
abbrev pub no_notes : Notes
no_notes = notes 0 None

-- a line more, what is wrong with it, and the first byte of its answer: the first line that is answered `?`, 63, is kept
unfoldable pub noted : Notes → Fault → ℕ → Notes
noted n fault first =
    let lines = (n.lines + 1) % 2 ^ 64 in
    cond (is_none n.unknown && first == 63) (notes lines (Some (unknown_line_at lines fault))) (notes lines n.unknown)

-- what is wrong with the line of these bytes; a line has 64 places
unfoldable pub fault_in : List ℕ → Fault
fault_in bytes = cond (nat_lt 64 (length bytes)) Long (fault_of_text bytes)

abbrev pub noted_line : Window → Notes → List ℕ → Notes
noted_line k n bytes = noted n (fault_in bytes) (slice_index (line_does k bytes).bytes 0)

-- line after line, each on what the one before left
unfoldable pub noted_lines : Window → Notes → List (List ℕ) → Notes
noted_lines k n [] = n
noted_lines k n (l ∷ ls) = noted_lines (line_does k l).after (noted_line k n l) ls
