use Rattle.std.proofs.Common.{refl, ap, ◌≤◌, arith}
use Rattle.window.specs.Memory.{memory, capacity}
use Rattle.laws_soundness.specs.Change.{Limits}
use Rattle.range_retire.specs.Spans.{span_most}
use Rattle.range_retire.proofs.PerformLaws.{fits_kept}
use Rattle.range_retire.proofs.RangeLaws.{most-end, most-begin, capacity-whole, round-two}
use Rattle.range_retire.proofs.range.retire_round.Goals as goal

pub retire_span-first-requires : goal.retire_span-first-requires
retire_span-first-requires c =
    let few : span_most c.args.start c.args.end ≤ 64 = let a = c.args in most-end a.start a.end (capacity-whole a.w.window_size a.end c.requires.start_lt_end.1 c.requires.start_lt_end.2) in
    record { fits = c.requires.fits; start_lt_end = (c.requires.start_lt_end.0, c.requires.start_lt_end.1, omega (arith, few, c.requires.start_lt_end.5)) }

pub retire_span-second-requires : goal.retire_span-second-requires
retire_span-second-requires c =
    let e = ap (λ (y : Limits). capacity y.size) c.retire_span-first.ensures.limits in
    let few : span_most c.args.start c.args.end ≤ 64 = let a = c.args in most-end a.start a.end (capacity-whole a.w.window_size a.end c.requires.start_lt_end.1 c.requires.start_lt_end.2) in
    let t = c.retire_span-first.ensures in record { fits = fits_kept c.args.w _ _ _ t.limits t.lengths c.requires.fits; start_lt_end = (c.requires.start_lt_end.3, omega (arith, e, c.requires.start_lt_end.1, c.requires.start_lt_end.4), omega (arith, t.few, few, most-begin c.args.rest, t.wrote.long, c.requires.start_lt_end.5)) }

pub overflow_add-result : goal.overflow_add-result
overflow_add-result c =
    let few : span_most c.args.start c.args.end ≤ 64 = let a = c.args in most-end a.start a.end (capacity-whole a.w.window_size a.end c.requires.start_lt_end.1 c.requires.start_lt_end.2) in
    omega (arith, c.retire_span-first.ensures.few, few, c.retire_span-second.ensures.few, most-begin c.args.rest)

pub returns : goal.returns
returns c =
    let a = c.args in
    round-two a.w (memory a.sequences.now a.values.now a.pages.now a.blocks.now) a.returned.now a.start a.end a.rest _ _ _ _ _ _ c.requires.start_lt_end.0 c.requires.start_lt_end.1 c.requires.start_lt_end.2 _ (omega arith)
    c.retire_span-first.ensures c.retire_span-second.ensures _ refl
