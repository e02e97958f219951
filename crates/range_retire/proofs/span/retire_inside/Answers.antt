-- The positions of a stretch inside one page are a span of its slots (span-inside). Assumes nothing.
use Rattle.std.proofs.Common.{arith}
use Rattle.window.specs.Memory.{memory}
use Rattle.window.proofs.MemoryLaws.{capacity-pages}
use Rattle.range_retire.proofs.SpanLaws.{most-inside, span-inside}
use Rattle.range_retire.proofs.span.retire_inside.Goals as goal

pub remove_slots-requires : goal.remove_slots-requires
remove_slots-requires c =
    let a = c.args in
    record { fits = c.requires.fits; page_bound = (omega (arith, capacity-pages a.w.window_size, c.requires.start_lt_end.0, c.requires.start_lt_end.2), omega (arith, most-inside a.start a.end c.requires.start_lt_end.1, c.requires.start_lt_end.3)) }

pub returns : goal.returns
returns c =
    let a = c.args in
    span-inside a.w (memory a.sequences.now a.values.now a.pages.now a.blocks.now) a.at a.returned.now a.start a.end _ _ _ _ c.requires.start_lt_end.0 c.requires.start_lt_end.1 c.span-slots.ensures c.remove_slots.ensures
