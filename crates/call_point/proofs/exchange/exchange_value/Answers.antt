-- A retired page gives nothing, a live one what it holds. Assumes nothing.
use Rattle.window.specs.Memory.{memory}
use Rattle.call_point.proofs.ReachLaws.{in-lists}
use Rattle.call_point.proofs.ExchangeLaws.{exchange-none, exchange-admitted}
use Rattle.call_point.proofs.exchange.exchange_value.Goals as goal

pub reachable-requires : goal.reachable-requires
reachable-requires c =
    let i = in-lists c.args.w _ _ _ _ c.args.sequence c.position-page.result c.requires c.position-page.ensures in
    (i.page-fits, i.in_blocks)

pub returns-then-not-reachable : goal.returns-then-not-reachable
returns-then-not-reachable c =
    exchange-none c.args.w (memory c.args.sequences.now c.args.values.now c.args.pages.now c.args.blocks.now) c.requires c.args.sequence c.position-page.result
    c.reachable.result c.position-page.ensures c.reachable.ensures c.args.value c.if-not-reachable.true _ c.reply.ensures

pub page_words-words-requires : goal.page_words-words-requires
page_words-words-requires c =
    let i = in-lists c.args.w _ _ _ _ c.args.sequence c.position-page.result c.requires c.position-page.ensures in
    (i.page-fits, i.in-pages)

pub exchange_in_page-read-requires : goal.exchange_in_page-read-requires
exchange_in_page-read-requires c =
    let i = in-lists c.args.w _ _ _ _ c.args.sequence c.position-page.result c.requires c.position-page.ensures in
    (i.page-fits, i.in-sequences, i.in-values, i.cells.1)

pub returns : goal.returns
returns c =
    exchange-admitted c.args.w (memory c.args.sequences.now c.args.values.now c.args.pages.now c.args.blocks.now) c.requires c.args.sequence c.position-page.result
    c.reachable.result c.position-page.ensures c.reachable.ensures c.args.value c.if-not-reachable.false
    c.page_words-words.result c.page_words-words.ensures c.exchange_in_page-read.result _ c.exchange_in_page-read.ensures _ c.read_answer.ensures _ c.reply-2.ensures
