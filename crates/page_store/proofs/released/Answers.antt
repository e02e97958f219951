use Rattle.page_store.proofs.ComposeLaws.{release-kept, release-emptied}
use Rattle.page_store.proofs.released.Goals as goal

pub returns-then-holds : goal.returns-then-holds
returns-then-holds c = release-kept _ _ _ _ _ _ _ c.fewer_held.ensures c.note_page-noted.ensures c.if-holds.true

pub returns : goal.returns
returns c = release-emptied _ _ _ _ _ _ _ _ c.fewer_held.ensures c.note_page-noted.ensures c.if-holds.false c.settle_retired-window.ensures c.unmark_page-block.ensures
