use Rattle.std.proofs.Common.{arith}
use Rattle.window.specs.Memory.{memory}
use Rattle.window.proofs.MemoryLaws.{capacity-le}
use Rattle.call_retire.proofs.RemoveRangeLaws.{ready-performs}
use Rattle.call_retire.proofs.remove_range.retire.Goals as goal

-- the position is one of a window
pub ready-window-requires : goal.ready-window-requires
ready-window-requires c = omega (arith, capacity-le c.args.w.window_size, c.requires.start_bound.0)

pub returns : goal.returns
returns c =
    let s = c.args in
    let t = c.retire_range-retired in
    ready-performs s.w (memory s.sequences.now s.values.now s.pages.now s.blocks.now) s.returned.now s.start s.count t.result _ _ _ t.ensures c.ready-window.ensures
