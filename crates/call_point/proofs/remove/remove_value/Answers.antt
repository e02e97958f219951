-- A retired page gives nothing, a live one what it holds. Assumes nothing.
use Rattle.window.specs.Memory.{memory}
use Rattle.call_point.proofs.ReachLaws.{in-lists}
use Rattle.call_point.proofs.RemoveLaws.{remove-none, remove-admitted}
use Rattle.call_point.proofs.remove.remove_value.Goals as goal

pub reachable-requires : goal.reachable-requires
reachable-requires c =
    let i = in-lists c.args.w _ _ _ _ c.args.sequence c.position-page.result c.requires c.position-page.ensures in
    (i.page-fits, i.in_blocks)

pub returns-then-not-reachable : goal.returns-then-not-reachable
returns-then-not-reachable c =
    remove-none c.args.w (memory c.args.sequences.now c.args.values.now c.args.pages.now c.args.blocks.now) c.requires c.args.sequence c.position-page.result
    c.reachable.result c.position-page.ensures c.reachable.ensures c.if-not-reachable.true _ c.reply.ensures

pub page_words-words-requires : goal.page_words-words-requires
page_words-words-requires c =
    let i = in-lists c.args.w _ _ _ _ c.args.sequence c.position-page.result c.requires c.position-page.ensures in
    (i.page-fits, i.in-pages)

pub remove_in_page-r-requires : goal.remove_in_page-r-requires
remove_in_page-r-requires c =
    let i = in-lists c.args.w _ _ _ _ c.args.sequence c.position-page.result c.requires c.position-page.ensures in
    (i.page-fits, i.in-sequences, i.in-values, i.cells.1)

pub keep_removed-requires : goal.keep_removed-requires
keep_removed-requires c =
    let i = in-lists c.args.w _ _ _ _ c.args.sequence c.position-page.result c.requires c.position-page.ensures in
    (i.page-fits, i.in-pages, i.in_blocks)

pub returns : goal.returns
returns c =
    remove-admitted c.args.w (memory c.args.sequences.now c.args.values.now c.args.pages.now c.args.blocks.now) c.requires c.args.sequence c.position-page.result
    c.reachable.result c.position-page.ensures c.reachable.ensures c.if-not-reachable.false
    c.page_words-words.result c.page_words-words.ensures c.remove_in_page-r.result _ _ c.remove_in_page-r.ensures c.keep_removed.result _ _ c.keep_removed.ensures
