-- What the functions of the line program leave. Definitions only. Assumes nothing.
use Rattle.std.specs.Prelude.{◌≡◌, ℕ, ◌+◌, ◌<◌, ◌≤◌, true, cond, List, [], ◌∷◌, ◌++◌, length, take, nat_lt, slice_index, slice_range}
use Rattle.std.specs.Prelude.{Option, None}
use Rattle.line_text.specs.Lines.{Line, line_of, parts, ended, waiting}
use Rattle.line_text.specs.PrintContracts.{Puts}
use Rattle.window.specs.declared.AdaptiveReceiverPacketWindow.{AdaptiveReceiverPacketWindow}
use Rattle.window.specs.Memory.{memory}
use Rattle.window.specs.Lent.{Lent, found_in, left_in}
use Rattle.model.specs.Window.{Window}
use Rattle.model.specs.Sound.{SoundWithPoint}
use Rattle.model.specs.Contract.{State, window_of, lengths_fit}
use Rattle.call_base.specs.Answers.{state_of}
use Rattle.line_faults.specs.Faults.{fault_of_line}
use Rattle.line_program.specs.Program.{kept_of, Printed, said_line, lines_do, unless_empty}
use Rattle.line_program.specs.declared.answer.Answered.{Answered}
use Rattle.line_program.specs.declared.Program.{Program}
use Rattle.line_program.specs.declared.notes.Notes.{Notes}
use Rattle.line_program.specs.Notes.{noted, noted_lines}

-- what the program keeps between lines: once an n is accepted, a sound window with lists as long as it names them
pub record Kept (u : State) : Type 0 where
  pub fit : 0 < u.header.window_size → lengths_fit u ≡ true
  pub sound : 0 < u.header.window_size → SoundWithPoint (window_of u)

-- as a signature says it, of lists as a function finds them
abbrev pub KeptIn : AdaptiveReceiverPacketWindow → (sequences values pages blocks : List ℕ) → Type 0
KeptIn w s v p b = Kept (state_of w (memory s v p b))

-- a line was answered as p says: its bytes stand from `at` on, and r is the place after them
pub record Answers (p : Printed) (u' : State) (at : ℕ) (out : List ℕ) (r : ℕ) (out' : List ℕ) : Type 0 where
  pub kept : Kept u'
  pub after : kept_of u' ≡ p.after
  pub puts : Puts at p.bytes out r out'

-- as a signature says it
abbrev pub AnswersBy : (Window → Printed) → AdaptiveReceiverPacketWindow → (sequences values pages blocks out : Lent) → ℕ → Answered → Type 0
AnswersBy p w ss vs pages blocks out at r =
    (at ≤ length out.entry)
    × Answers (p (kept_of (state_of w (found_in ss vs pages blocks)))) (state_of r.window (left_in ss vs pages blocks)) at out.entry r.at out.exit

-- ---- a line that comes in parts

-- the first n bytes of a line, as document 01 reads them; nothing if more came than the line has places for
unfoldable pub gathered : List ℕ → ℕ → Option Line
gathered line n = cond (nat_lt (length line) n) None (line_of (take n line))

-- the bytes b have come of a line, and no line feed in them: they stand in its places, or are more than these; a line feed is 10
pub record Holds (line : List ℕ) (n : ℕ) (b : List ℕ) : Type 0 where
  pub whole : parts 10 b ≡ b ∷ []
  pub short : length b ≤ length line → (n ≡ length b) × (take n line ≡ b)
  pub long : length line < length b → n ≡ length line + 1

-- the line in the first n places of `line` has ended: it was answered, what was wrong with it noted, and the next begins
pub record LineEnds (u : State) (p : Program) (line : List ℕ) (n : ℕ) (out : List ℕ) (r : Program) (u' : State) (out' : List ℕ) : Type 0 where
  pub answers : Answers (said_line (kept_of u) (gathered line n)) u' p.at out r.at out'
  pub notes : r.notes ≡ noted p.notes (fault_of_line line n) (slice_index out' p.at)
  pub begins : r.length ≡ 0
  pub places : length line ≡ 64
  pub room : p.at ≤ length out

-- as a signature says it; the program goes on at `from`
abbrev pub LineEndsBy : Program → Lent → (n from : ℕ) → (sequences values pages blocks out : Lent) → Program → Type 0
LineEndsBy p line n from ss vs pages blocks out r =
    (r.from ≡ from)
    × LineEnds (state_of p.window (found_in ss vs pages blocks)) p line.entry n out.entry r (state_of r.window (left_in ss vs pages blocks)) out.exit

-- ---- a part of the input

-- `taken` came of the input after the bytes b of a line, in state u with notes n: each line that ended was answered and noted, the rest
-- waits
pub record Takes (u : State) (n : Notes) (b taken : List ℕ) (at : ℕ) (out : List ℕ) (r : Program) (line' : List ℕ) (u' : State) (out' : List ℕ) : Type 0 where
  pub answers : Answers (lines_do (kept_of u) (ended (parts 10 (b ++ taken)))) u' at out r.at out'
  pub waits : Holds line' r.length (waiting (parts 10 (b ++ taken)))
  pub notes : r.notes ≡ noted_lines (kept_of u) n (ended (parts 10 (b ++ taken)))

-- the bytes of `part` from `from` up to `to`
abbrev pub between : ℕ → ℕ → List ℕ → List ℕ
between from to part = slice_range part from to

-- as a signature says it; `part`, `line` and the others are as p found them and r left them
abbrev pub TakesBy : Program → List ℕ → (line sequences values pages blocks out : Lent) → Program → Type 0
TakesBy p part line ss vs pages blocks out r =
    (b : List ℕ) → Holds line.entry p.length b
    → Takes (state_of p.window (found_in ss vs pages blocks)) p.notes b (between p.from r.from part) p.at out.entry r
    line.exit (state_of r.window (left_in ss vs pages blocks)) out.exit

-- where it stopped: at the end of the part, or with more than 65536 bytes put, and never before a line was taken
pub record Stops (p : Program) (end : ℕ) (r : Program) : Type 0 where
  pub from_le : p.from ≤ r.from
  pub le_end : r.from ≤ end
  pub full : r.from < end → 65536 < r.at
  pub goes_on : p.from < end → p.at ≤ 65536 → p.from < r.from

-- ---- the end of the input

-- a last line b without a line feed was answered and noted, if there was one
pub record Ends (u : State) (n : Notes) (b : List ℕ) (at : ℕ) (out : List ℕ) (r : Program) (u' : State) (out' : List ℕ) : Type 0 where
  pub answers : Answers (lines_do (kept_of u) (unless_empty b)) u' at out r.at out'
  pub notes : r.notes ≡ noted_lines (kept_of u) n (unless_empty b)

-- as a signature says it
abbrev pub EndsBy : Program → (line sequences values pages blocks out : Lent) → Program → Type 0
EndsBy p line ss vs pages blocks out r =
    (b : List ℕ) → Holds line.entry p.length b
    → Ends (state_of p.window (found_in ss vs pages blocks)) p.notes b p.at out.entry r
    (state_of r.window (left_in ss vs pages blocks)) out.exit
