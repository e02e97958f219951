-- The reader's phase and turn as its laws have them, and what it promises. Definitions only. Assumes nothing.
use Rattle.std.specs.Prelude.{◌≡◌, Option, None, Some, List, ℕ, ◌+◌}
use Rattle.std.proofs.Math.Option as math
use Rattle.std.proofs.Math.Option.{none, some}
use Rattle.model.specs.Losses.{named_flags, loss_bytes, lost_count, over}
use Rattle.laws_losses.specs.Reading as laws
use Rattle.laws_losses.specs.Reading.{clear, alone, ended, opened, place, turn_to}
use Rattle.loss_list.specs.declared.read.Phase.{Phase}
use Rattle.loss_list.specs.declared.read.Phase.TheVariants.{Clear, Alone, Ended, Opened}
use Rattle.loss_list.specs.declared.read.Turn.{Turn}

abbrev pub phase_of : Phase → laws.Phase
phase_of Clear = clear
phase_of Alone = alone
phase_of Ended = ended
phase_of Opened = opened

-- a turn from distance `at` on, or none
abbrev pub turned_by : ℕ → Option Turn → math.Option laws.Turn
turned_by at None = none
turned_by at (Some t) = some (turn_to t.gap t.lost (place (at + t.gap + t.lost) (phase_of t.phase)))

-- the losses that a right list names, as bytes at the beginning of a lent list; r is how many they are
pub record PutsFlags (first count : ℕ) (words before : List ℕ) (r : ℕ) (now : List ℕ) : Type 0 where
  pub number : r ≡ lost_count (named_flags first count words)
  pub bytes : now ≡ over (loss_bytes (named_flags first count words)) before
