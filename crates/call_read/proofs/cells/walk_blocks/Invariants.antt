-- Block by block: no cell before the block is held, and each block entered is one read (NoneBefore; block-cell, block-end). Assumes
-- nothing.
use Rattle.std.proofs.Common.{◌≡◌, ◌-◌, ◌/◌, ◌≤◌}
use Rattle.call_read.specs.Promises.{entered_at}
use Rattle.call_read.proofs.CellLaws.{NoneBefore}
use Rattle.call_read.proofs.cells.walk_blocks.Given as goal

abbrev pub invariant-walk : goal.invariant-walk
invariant-walk l =
    (l.start / 4096 ≤ l.block) × (l.block ≤ (l.end - 1) / 4096) × (l.entered ≡ entered_at l.blocks l.retired_blocks l.block (l.block - l.start / 4096))
    × NoneBefore l.pages l.blocks l.retired_blocks l.start l.end l.block

abbrev pub decreases-walk : goal.decreases-walk
decreases-walk l = l.last - l.block
