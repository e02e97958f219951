use Rattle.std.proofs.Common.{ap, ◌∙◌}
use Rattle.model.specs.Table.{sequence_at_of}
use Rattle.acknowledge.proofs.point_from.Goals as goal

pub returns : goal.returns
returns c = record { is = λ vs ok. c.sequence_at.ensures ∙ ap (sequence_at_of _) (c.advance.ensures.is vs ok) }
