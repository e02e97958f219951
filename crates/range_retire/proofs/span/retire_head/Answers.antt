use Rattle.std.proofs.Common.{arith}
use Rattle.window.specs.Memory.{memory}
use Rattle.window.proofs.MemoryLaws.{capacity-pages}
use Rattle.range_retire.proofs.SpanLaws.{partial-some, head-part}
use Rattle.range_retire.proofs.span.retire_head.Goals as goal

pub remove_slots-requires : goal.remove_slots-requires
remove_slots-requires c =
    let a = c.args in
    record { fits = c.requires.fits; page_bound = (omega (arith, capacity-pages a.w.window_size, c.requires.start_bound.0, c.if-start-eq0.false), omega (arith, partial-some a.start c.if-start-eq0.false, c.requires.start_bound.1)) }

pub returns : goal.returns
returns c =
    let a = c.args in
    head-part a.w (memory a.sequences.now a.values.now a.pages.now a.blocks.now) a.at a.returned.now a.start c.if-start-eq0.false _ _ _ _ c.remove_slots.ensures c.span-slots.ensures
