-- A range of positions retired, and the window made ready for the release that follows. Definitions only. Assumes nothing.
use Rattle.std.specs.Prelude.{ℕ, ◌/◌, cond, ◌==◌}
use Rattle.model.specs.Window.{Window}
use Rattle.model.specs.Steps.{with_header, set_cursor, drop_block_marks, Returned, returned_by, retire_range_of}

-- "If nothing was retired before, release_cursor becomes the page of first": of `held` values
abbrev pub aimed : ℕ → ℕ → Window → Window
aimed held start w = cond (held == 0) (with_header w (set_cursor w.header (start / 64))) w

-- and without block marks if nothing is retired now
unfoldable pub readied : ℕ → ℕ → Window → Window
readied held start w = drop_block_marks (aimed held start w)

unfoldable pub retire_ready : Window → ℕ → ℕ → Returned
retire_ready w start count = let t = retire_range_of w start count in returned_by (readied w.header.retired_held start t.after) t.out
