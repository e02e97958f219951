-- What a run keeps between its turns, and what the steps of a turn change. Definitions only. Assumes nothing.
use Rattle.std.specs.Prelude.{◌≡◌, true, false, ◌||◌, is_some, List, ℕ, ◌≤◌, ◌<◌, length, take}
use Rattle.window.specs.Memory.{Memory}
use Rattle.window.specs.Lent.{Lent, found_in, left_in}
use Rattle.call_base.specs.Answers.{state_of}
use Rattle.line_program.specs.declared.Program.{Program}
use Rattle.line_program.specs.Promises.{Kept, TakesBy, Stops}
use Rattle.windowlines.specs.declared.run.Run.{Run}

-- the program stands in a part of the input that has come, and no output waits
pub record Going (r : Run) (m : Memory) : Type 0 where
  pub kept : Kept (state_of r.program.window m)
  pub from_le : r.program.from ≤ r.n
  pub few : r.n ≤ 65536
  pub nothing_waits : r.program.at ≡ 0

-- p at these places of the input and the output, and nothing else changed
abbrev pub stands_at : Program → (from at : ℕ) → Program
stands_at p from at = record { window = p.window; length = p.length; from = from; at = at; notes = p.notes }

-- the next part came if the one before was used up, and the program stands at its beginning; where no bytes came, the run has ended
pub record Refilled (r : Run) (input : List ℕ) (s : Run) (input' : List ℕ) : Type 0 where
  pub stays : r.program.from < r.n → s ≡ r
  pub input_stays : r.program.from < r.n → input' ≡ input
  pub program : r.n ≤ r.program.from → s.program ≡ stands_at r.program 0 r.program.at
  pub few : r.n ≤ 65536 → s.n ≤ 65536
  pub told : s.told ≡ r.told
  pub failed : s.failed ≡ r.failed
  pub came : 0 < s.n → s.ended ≡ r.ended
  pub ended : s.n ≡ 0 → s.ended ≡ true

-- the output of p, the first bytes of `out`, was written or the write failed, which ends the run, and the first line that is no call told
pub record Written (r : Run) (p : Program) (out : List ℕ) (s : Run) : Type 0 where
  pub program : s.program ≡ stands_at p p.from 0
  pub n : s.n ≡ r.n
  pub told : s.told ≡ (r.told || is_some p.notes.unknown)
  pub room : s.failed ≡ false → p.at ≤ length out
  pub ended : s.ended ≡ (r.ended || s.failed)

-- lines of the part that r stands in were answered, which left the program p, and its output written
pub record TakesAndWrites (r : Run) (p : Program) (input line sequences values pages blocks out : Lent) (s : Run) : Type 0 where
  pub takes : TakesBy r.program (take r.n input.exit) line sequences values pages blocks out p
  pub stops : Stops r.program r.n p
  pub written : Written r p out.exit s

-- a turn: `filled` is the run once a part is there; if it has ended, it stays, and so do the line and the memory; otherwise lines of
-- the part are answered
pub record Turned (r : Run) (input line sequences values pages blocks out : Lent) (s : Run) : Type 0 where
  pub filled : Run
  pub refilled : Refilled r input.entry filled input.exit
  pub rests : filled.ended ≡ true → s ≡ filled
  pub line_stays : filled.ended ≡ true → line.exit ≡ line.entry
  pub memory_stays : filled.ended ≡ true → left_in sequences values pages blocks ≡ found_in sequences values pages blocks
  pub answers : filled.ended ≡ false → (p : Program) × TakesAndWrites filled p input line sequences values pages blocks out s
