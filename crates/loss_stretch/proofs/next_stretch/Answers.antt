-- The bits of the row's mask up to the first that differs, at most to the range's end (stretch). Assumes nothing.
use Rattle.std.proofs.Common.{arith}
use Rattle.loss_stretch.proofs.RowLaws.{stretch}
use Rattle.loss_stretch.proofs.next_stretch.Goals as goal

pub returns : goal.returns
returns c =
    let a = c.args in
    stretch a.w a.sequences.now a.pages.now a.blocks.now a.first a.count a.d _ _ c.row_end.result (omega arith) c.sequence_at-sequence.ensures c.row_at-row.ensures c.row_end.ensures.value
    _ _ c.bit-lost.ensures (omega arith) (omega arith) (omega arith)
