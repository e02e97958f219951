use mathlib.Core.Path.{sym}
use Rattle.page_release.proofs.ReviveLaws.{revived-empty, revived-marked}
use Rattle.page_release.proofs.revive.Goals as goal

pub returns-then-not-bit : goal.returns-then-not-bit
returns-then-not-bit c =
    let a = c.args in
    revived-empty a.w a.n a.sequences.now a.values.now a.pages.now a.blocks.now a.returned.now a.page _ _ _
    c.block_words.ensures c.split_retired_block-change.ensures c.put_block_words.ensures
    (sym c.if-not-bit.ensures)

pub returns : goal.returns
returns c =
    let a = c.args in
    revived-marked a.w a.n a.sequences.now a.values.now a.pages.now a.blocks.now a.returned.now a.page _ _ _
    c.block_words.ensures c.split_retired_block-change.ensures c.put_block_words.ensures
    _ _ _ _ (sym c.if-not-bit.ensures) c.release_page.ensures
