use Rattle.std.proofs.Common.{ap, ◌∙◌}
use Rattle.model.specs.Steps.{set_point}
use Rattle.acknowledge.proofs.PointLaws.{remove-before, remove-after}
use Rattle.acknowledge.proofs.after_remove.Goals as goal

pub returns-then-distance : goal.returns-then-distance
returns-then-distance c =
    let s = c.args in
    c.with_point.ensures
    ∙ ap (set_point s.w) (remove-before s.w.base s.w.point s.sequence _ _ c.distance.ensures c.distance-2.ensures c.if-distance.true)

pub returns : goal.returns
returns c =
    let s = c.args in
    ap (set_point s.w) (remove-after s.w.base s.w.point s.sequence _ _ c.distance.ensures c.distance-2.ensures c.if-distance.false)
