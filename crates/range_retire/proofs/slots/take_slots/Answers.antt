-- The values drained, the page settled, and the bookkeeping for it, one after another (takes-slots). Assumes nothing.
use Rattle.std.proofs.Common.{length}
use Rattle.range_retire.proofs.TakeLaws.{page-in, takes-slots}
use Rattle.range_retire.proofs.slots.take_slots.Goals as goal

pub drain_slots-d-requires : goal.drain_slots-d-requires
drain_slots-d-requires c =
    let a = c.args in
    let i = page-in a.w a.page (length a.sequences.now) (length a.values.now) (length a.pages.now) (length a.blocks.now) c.requires.fits c.requires.page_bound.0 in
    record { page_bound = (i.few, i.sequences, i.values, i.words); n_bound = (i.cells, c.requires.page_bound.1) }

pub settle_page-s-requires : goal.settle_page-s-requires
settle_page-s-requires c =
    let a = c.args in
    let i = page-in a.w a.page (length a.sequences.now) (length a.values.now) (length a.pages.now) (length a.blocks.now) c.requires.fits c.requires.page_bound.0 in
    (i.few, i.sequences, i.values)

pub store_removed-window-requires : goal.store_removed-window-requires
store_removed-window-requires c =
    let a = c.args in
    let i = page-in a.w a.page (length a.sequences.now) (length a.values.now) (length a.pages.now) (length a.blocks.now) c.requires.fits c.requires.page_bound.0 in
    (i.few, i.words, i.block)

pub returns : goal.returns
returns c =
    let a = c.args in
    takes-slots a.w a.sequences.now a.values.now a.pages.now a.blocks.now a.returned.now a.page a.slots a.at _ _ _ _ _ _ _ _
    c.requires.fits c.requires.page_bound.0 c.requires.page_bound.1 c.drain_slots-d.ensures c.settle_page-s.ensures c.store_removed-window.ensures
