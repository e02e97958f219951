use Rattle.window.specs.Memory.{memory}
use Rattle.laws_soundness.specs.Retire.{first_page, last_page}
use Rattle.model.specs.Window.{Window}
use Rattle.range_retire.specs.Spans.{partial}
use Rattle.range_retire.proofs.PerformLaws.{performs-then}
use Rattle.range_retire.proofs.SpanLaws.{retiring-begun}
use Rattle.range_retire.proofs.span.retire_ends.Goals as goal

pub returns : goal.returns
returns c =
    let a = c.args in
    performs-then (λ (v : Window). first_page v a.start) (λ (v : Window). last_page v a.end) (partial a.start) (partial a.end) a.w (memory a.sequences.now a.values.now a.pages.now a.blocks.now) a.at a.returned.now _ _ _ _ _ _
    (retiring-begun a.w (memory a.sequences.now a.values.now a.pages.now a.blocks.now) a.start a.end c.requires.start_bound.0 c.requires.start_bound.1) c.retire_head-head.ensures c.retire_tail-tail.ensures
