use Rattle.std.proofs.Common.{refl, ◌+◌, arith}
use Rattle.window.specs.Memory.{memory}
use Rattle.range_retire.proofs.PerformLaws.{performs-as}
use Rattle.range_retire.proofs.SpanLaws.{most-across}
use Rattle.range_retire.proofs.RangeLaws.{most-le, range-one, range-two}
use Rattle.range_retire.proofs.range.retire_range.Goals as goal

pub retire_inside-requires : goal.retire_inside-requires
retire_inside-requires c =
    let a = c.args in
    record { fits = c.requires.fits; start_lt_end = (omega (arith, c.requires.start_bound.1), c.if-start-to.true, omega (arith, c.if-to-end.true, c.capacity-end.ensures), omega (arith, most-le a.start (a.start + a.count), c.requires.start_bound.3)) }

pub returns-then-start-to : goal.returns-then-start-to
returns-then-start-to c =
    let a = c.args in
    range-one a.w (memory a.sequences.now a.values.now a.pages.now a.blocks.now) a.returned.now a.start a.count _ _ _ _ c.capacity-end.ensures c.if-to-end.true c.retire_inside.ensures

pub retire_across-requires : goal.retire_across-requires
retire_across-requires c =
    let a = c.args in
    record { fits = c.requires.fits; start_bound = (omega (arith, c.if-start-to.false, c.requires.start_bound.1), omega (arith, c.if-to-end.true, c.capacity-end.ensures), omega (arith, most-across a.start (a.start + a.count) c.if-start-to.false, most-le a.start (a.start + a.count), c.requires.start_bound.3)) }

pub returns-then-to-end : goal.returns-then-to-end
returns-then-to-end c =
    let a = c.args in
    let m = memory a.sequences.now a.values.now a.pages.now a.blocks.now in
    range-one a.w m a.returned.now a.start a.count _ _ _ _ c.capacity-end.ensures c.if-to-end.true
    (performs-as _ a.w m 0 a.returned.now _ _ _ _ _ _ (omega (arith, most-across a.start (a.start + a.count) c.if-start-to.false)) refl c.retire_across.ensures)

pub returns : goal.returns
returns c =
    let a = c.args in
    range-two a.w (memory a.sequences.now a.values.now a.pages.now a.blocks.now) a.returned.now a.start a.count _ _ _ _ c.capacity-end.ensures c.if-to-end.false c.retire_round.ensures
