use Rattle.window.specs.Memory.{memory}
use Rattle.range_retire.proofs.SpanLaws.{across-pages, span-across}
use Rattle.range_retire.proofs.span.retire_across.Goals as goal

pub retire_pages-window-requires : goal.retire_pages-window-requires
retire_pages-window-requires c =
    let a = c.args in
    across-pages a.w (memory a.sequences.now a.values.now a.pages.now a.blocks.now) a.at a.returned.now a.start a.end c.requires.start_bound.0 c.requires.start_bound.1 c.requires.fits _ _ _ _ _ _ c.retire_ends-ends.ensures

pub returns : goal.returns
returns c =
    let a = c.args in
    span-across a.w (memory a.sequences.now a.values.now a.pages.now a.blocks.now) a.at a.returned.now a.start a.end c.requires.start_bound.0 c.requires.start_bound.1 c.requires.fits _ _ _ _ _ _ c.retire_ends-ends.ensures _ _ c.retire_pages-window.ensures
