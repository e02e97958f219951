-- Document 02, S-1: the acknowledge point. Definitions only. Assumes nothing.
use Rattle.std.specs.Prelude.{Bool, not, ℕ}
use Rattle.words.specs.First.{first_from_of}
use Rattle.window.specs.Memory.{position}
use Rattle.model.specs.Table.{Table, finds, sequence_at_of}

-- "live": get finds the sequence
abbrev pub is_live : ℕ → Table → ℕ → Bool
is_live size t s = finds s (t (position size s))

-- the distance from the base, below window_size, of the first sequence that is not live; window_size if all are live
unfoldable pub reach : ℕ → Table → ℕ → ℕ
reach size t base = first_from_of (λ (d : ℕ). not (is_live size t (sequence_at_of base d))) size 0

-- "the first sequence from the base, in 31-bit circular order, that is not live; if the window_size sequences from the base are all
-- live, it is the base plus window_size"
abbrev pub point_of : ℕ → Table → ℕ → ℕ
point_of size t base = sequence_at_of base (reach size t base)
