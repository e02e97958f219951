-- `Passed` carries the loop: the cells passed are sound, and `named` has just their positions, each of one cell. Its laws are in Passing.
-- Assumes nothing.
use Rattle.words.specs.Word.{count}
use Rattle.window.specs.Memory.{capacity}
use Rattle.page_base.specs.Page.{cells}
use Rattle.page_check.proofs.CellLoopLaws.{Passed}
use Rattle.page_check.proofs.cells_sound.Given as goal

abbrev pub invariant-loop-rest : goal.invariant-loop-rest
invariant-loop-rest l =
    Passed l.n (capacity l.window_size) l.page (record { kind = l.kind; occupied = l.occupied; filled = l.initial.rest }) (cells l.sequences) l.rest l.named

abbrev pub decreases-loop-rest : goal.decreases-loop-rest
decreases-loop-rest l = count l.rest
