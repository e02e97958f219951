-- The value goes into the page's cells, and what that left is kept. Assumes nothing.
use Rattle.window.specs.Memory.{memory}
use Rattle.call_point.proofs.LiveInsertLaws.{inserts-live}
use Rattle.call_point.proofs.insert.insert_live.Goals as goal

pub returns : goal.returns
returns c =
    inserts-live c.args.w (memory c.args.sequences.now c.args.values.now c.args.pages.now c.args.blocks.now) c.args.page c.args.n c.args.sequence c.args.value c.requires.page_bound.1 c.requires.page_bound.2 c.requires.row_in.2
    c.page_words-words.result c.page_words-words.ensures c.insert_in_page-r.result _ _ c.insert_in_page-r.ensures c.keep.result _ _ c.keep.ensures
