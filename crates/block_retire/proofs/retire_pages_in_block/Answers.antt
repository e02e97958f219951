use Rattle.std.proofs.Common.{arith}
use Rattle.block_retire.proofs.CountLaws.{values-le}
use Rattle.block_retire.proofs.MarkLaws.{retires-in-block, newly-named}
use Rattle.block_retire.proofs.retire_pages_in_block.Goals as goal

pub values_in-removed-requires : goal.values_in-removed-requires
values_in-removed-requires c = (c.requires.0, newly-named c.args.pages.now c.args.block c.args.mask _ _ c.newly_retired-newly.ensures c.requires.2)

pub overflow_cast-removed : goal.overflow_cast-removed
overflow_cast-removed c = omega (arith, c.values_in-removed.ensures, values-le c.args.pages.now c.args.block c.newly_retired-newly.result)

pub returns : goal.returns
returns c =
    retires-in-block _ _ _ _ _ _ _ _ _ _ _ _ _ c.block_words.ensures c.split_retired_block-change.ensures c.newly_retired-newly.ensures
    c.mark_pages.ensures c.values_in-removed.ensures c.sub_live-fewer.ensures c.more_held.ensures c.put_block_words.ensures
