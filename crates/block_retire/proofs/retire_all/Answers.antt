use Rattle.std.proofs.Common.{◌<◌, ◌≤◌, arith}
use Rattle.window.proofs.MemoryLaws.{block-count-le, page-count-ge}
use Rattle.block_retire.proofs.AllLaws.{retires-all}
use Rattle.block_retire.proofs.retire_all.Goals as goal
use Rattle.block_retire.proofs.retire_all.Goals.{After-block_count-count}

some-blocks : (c : After-block_count-count) → (0 < c.block_count-count.result) × (c.block_count-count.result ≤ 16)
some-blocks c =
    let size = c.args.w.window_size in
    (omega (arith, c.block_count-count.ensures, page-count-ge size), omega (arith, c.block_count-count.ensures, block-count-le size))

pub clear_live-requires : goal.clear_live-requires
clear_live-requires c =
    ((some-blocks (goal.at.clear_live-requires c).After-block_count-count).1, omega (arith, c.block_count-count.ensures, c.requires.1))

pub span-requires : goal.span-requires
span-requires c =
    let k = some-blocks (goal.at.span-requires c).After-block_count-count in
    (k.0, omega (arith, k.1))

pub returns : goal.returns
returns c =
    retires-all c.args.w _ _ _ _ _ _ c.block_count-count.ensures c.clear_live.ensures c.more_held-window.ensures c.span.ensures c.requires.1 c.settle_retired.ensures
