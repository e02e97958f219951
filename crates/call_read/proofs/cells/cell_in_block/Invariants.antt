-- Each turn looks at the lowest page left and takes it out: no cell of a page that is out is held (LeftPages, of PageCellLaws). Assumes
-- nothing.
use Rattle.words.specs.Word.{count}
use Rattle.call_read.proofs.PageCellLaws as laws
use Rattle.call_read.proofs.cells.cell_in_block.Given as goal

abbrev pub invariant-loop-left : goal.invariant-loop-left
invariant-loop-left l = laws.LeftPages l.pages l.live l.block l.start l.end l.left

abbrev pub decreases-loop-left : goal.decreases-loop-left
decreases-loop-left l = count l.left
