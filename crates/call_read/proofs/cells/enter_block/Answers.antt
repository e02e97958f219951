-- The block's pages as selected_pages gives them, and one read more. Assumes nothing.
use Rattle.std.proofs.Common.{◌+◌}
use Rattle.call_read.proofs.cells.enter_block.Goals as goal

pub selected_pages-requires : goal.selected_pages-requires
selected_pages-requires c = (c.requires.0, c.requires.1)

pub returns : goal.returns
returns c = λ i. record { live = c.selected_pages.ensures i; reads = c.args.reads + 1 }
