use Rattle.std.proofs.Common.{ap, ◌∙◌}
use Rattle.window.specs.Memory.{capacity, position}
use Rattle.model.specs.Steps.{set_point}
use Rattle.acknowledge.proofs.PointLaws.{range-before, range-after}
use Rattle.acknowledge.proofs.after_range.Goals as goal

pub returns-then-d-distance : goal.returns-then-d-distance
returns-then-d-distance c =
    let s = c.args in
    c.with_point.ensures
    ∙ ap (set_point s.v) (c.sequence_at.ensures
    ∙ range-before (capacity s.size) (position s.size s.first) s.count s.v.base s.v.point _ _ c.first_covered-d.ensures c.distance.ensures c.if-d-distance.true)

pub returns : goal.returns
returns c =
    let s = c.args in
    ap (set_point s.v)
    (range-after (capacity s.size) (position s.size s.first) s.count s.v.base s.v.point _ _ c.first_covered-d.ensures c.distance.ensures c.if-d-distance.false)
