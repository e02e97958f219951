-- The page's mask is that of the row (row-reached). Assumes nothing.
use Rattle.loss_stretch.proofs.RowLaws.{row-reached}
use Rattle.loss_stretch.proofs.live_mask.Goals as goal

pub returns : goal.returns
returns c =
    let s = c.args in
    row-reached s.w s.sequences.now s.pages.now s.blocks.now s.sequence c.position-page.result _ c.position-page.ensures c.reachable.ensures (cc) _ _ _
    c.page_words-words.ensures c.page_cells-cells.ensures c.page_mask.ensures
