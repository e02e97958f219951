-- The search for the acknowledge point from a distance on. Definitions only. Assumes nothing.
use Rattle.std.specs.Prelude.{not, ℕ, ◌-◌}
use Rattle.words.specs.First.{first_from_of}
use Rattle.model.specs.Table.{Table, sequence_at_of}
use Rattle.model.specs.Point.{is_live}

-- the first distance from d on, and below window_size, whose sequence is not live; window_size if there is none. Where all before d
-- are live this is the distance of the acknowledge point.
unfoldable pub advance : ℕ → Table → ℕ → ℕ → ℕ
advance size t base d = first_from_of (λ (e : ℕ). not (is_live size t (sequence_at_of base e))) (size - d) d
