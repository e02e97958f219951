use Rattle.std.proofs.Common.{length, rules}
use Rattle.range_retire.proofs.TakeLaws.{page-in, skips-empty, removes-slots}
use Rattle.range_retire.proofs.slots.remove_slots.Goals as goal

pub page_words-words-requires : goal.page_words-words-requires
page_words-words-requires c =
    let a = c.args in
    let i = page-in a.w a.page (length a.sequences.now) (length a.values.now) (length a.pages.now) (length a.blocks.now) c.requires.fits c.requires.page_bound.0 in
    (i.few, i.words)

pub returns-then-words-eq0 : goal.returns-then-words-eq0
returns-then-words-eq0 c =
    let a = c.args in
    skips-empty a.w a.sequences.now a.values.now a.pages.now a.blocks.now a.returned.now a.page a.slots a.at c.requires.page_bound.0 _ c.page_words-words.ensures c.if-words-eq0.true

pub page_retired-requires : goal.page_retired-requires
page_retired-requires c =
    let a = c.args in
    let i = page-in a.w a.page (length a.sequences.now) (length a.values.now) (length a.pages.now) (length a.blocks.now) c.requires.fits c.requires.page_bound.0 in
    (i.few, i.block)

pub returns : goal.returns
returns c =
    let a = c.args in
    removes-slots a.w a.sequences.now a.values.now a.pages.now a.blocks.now a.returned.now a.page a.slots a.at c.requires.page_bound.0 _ c.page_words-words.ensures _ c.page_retired.ensures
    (search rules) c.if-words-eq0.false _ _ _ c.take_slots.ensures
