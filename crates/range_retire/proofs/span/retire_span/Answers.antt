use Rattle.std.proofs.Common.{refl, arith}
use Rattle.window.specs.Memory.{memory}
use Rattle.range_retire.proofs.PerformLaws.{performs-as}
use Rattle.range_retire.proofs.SpanLaws.{most-across}
use Rattle.range_retire.proofs.span.retire_span.Goals as goal

pub retire_across-requires : goal.retire_across-requires
retire_across-requires c =
    let a = c.args in
    record { fits = c.requires.fits; start_bound = (omega (arith, c.if-start-end.false, c.requires.start_lt_end.0), c.requires.start_lt_end.1, omega (arith, most-across a.start a.end c.if-start-end.false, c.requires.start_lt_end.2)) }

pub returns : goal.returns
returns c =
    let a = c.args in
    performs-as _ a.w (memory a.sequences.now a.values.now a.pages.now a.blocks.now) a.at a.returned.now _ _ _ _ _ _ (omega (arith, most-across a.start a.end c.if-start-end.false)) refl c.retire_across.ensures
