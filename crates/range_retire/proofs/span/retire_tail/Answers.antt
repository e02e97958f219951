use Rattle.std.proofs.Common.{arith}
use Rattle.window.specs.Memory.{memory}
use Rattle.window.proofs.MemoryLaws.{capacity-pages}
use Rattle.range_retire.proofs.SpanLaws.{partial-some, tail-part}
use Rattle.range_retire.proofs.span.retire_tail.Goals as goal

pub remove_slots-requires : goal.remove_slots-requires
remove_slots-requires c =
    let a = c.args in
    record { fits = c.requires.fits; page_bound = (omega (arith, capacity-pages a.w.window_size, c.requires.end_bound.0, c.if-end-eq0.false), omega (arith, partial-some a.end c.if-end-eq0.false, c.requires.end_bound.1)) }

pub returns : goal.returns
returns c =
    let a = c.args in
    tail-part a.w (memory a.sequences.now a.values.now a.pages.now a.blocks.now) a.at a.returned.now a.end c.if-end-eq0.false _ _ _ _ c.remove_slots.ensures c.span-slots.ensures
