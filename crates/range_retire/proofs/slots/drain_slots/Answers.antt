use Rattle.std.proofs.Common.{ap, ◌∙◌, length}
use Rattle.page_base.proofs.PartLaws.{part_length}
use Rattle.range_retire.proofs.slots.drain_slots.Goals as goal

pub drain-requires : goal.drain-requires
drain-requires c = (
  ap length c.page_cells.ensures ∙ part_length c.args.page c.args.sequences.now c.requires.page_bound.1,
  ap length c.page_cells-2.ensures ∙ part_length c.args.page c.args.values.now c.requires.page_bound.2,
  c.requires.n_bound.0,
  c.requires.n_bound.1,
)
