-- The words are written if a value was taken out. Assumes nothing.
use Rattle.call_point.proofs.KeepLaws.{found-keeps}
use Rattle.call_point.proofs.remove.keep_removed.Goals as goal

pub returns-in-Some : goal.returns-in-Some
returns-in-Some c =
    let s = c.args in
    found-keeps s.w s.pages.now s.blocks.now s.page s.words s.left s.read c.reply.result c.in-Some.value c.store_removed-window.result _ _ c.in-Some.is c.reply.ensures c.store_removed-window.ensures
