use Rattle.page_base.proofs.PartLaws.{cells-set}
use Rattle.page_insert.proofs.put.Goals as goal

pub returns : goal.returns
returns c =
    λ i. record {
      kind = c.args.kind;
      occupied = c.set-occupied.ensures i;
      filled = c.set-filled.ensures i;
      sequences = cells-set c.args.sequences.now c.args.c c.args.sequence c.requires.0 c.requires.2 i;
      values = cells-set c.args.values.now c.args.c c.args.value c.requires.1 c.requires.2 i;
    }
