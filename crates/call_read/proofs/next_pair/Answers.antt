-- The pair of the cell that next_cell gives, or done where there is none, with its reads (iter-some, iter-none). Assumes nothing.
use Rattle.std.proofs.Common.{◌<◌, ◌∙◌, arith}
use Rattle.window.specs.Memory.{capacity}
use Rattle.model.specs.Window.{decode}
use Rattle.call_base.specs.Reading.{state_in}
use Rattle.call_read.proofs.IterLaws.{iter-some, pair-at, capacity-is}
use Rattle.call_read.proofs.next_pair.Goals as goal
use Rattle.call_read.proofs.next_pair.Goals.{In-Some}

-- the cell that was found is one of the window's
cell-lt : (c : In-Some) → c.in-Some.cell < capacity c.args.window.header.window_size
cell-lt c = let l : c.in-Some.cell < c.capacity-end.result = rw c.in-Some.is at c.next_cell-next.ensures.bounded in omega (arith, c.capacity-end.ensures)

pub returns-in-Some : goal.returns-in-Some
returns-in-Some c =
    let w = c.args.window in
    let m = (state_in w).memory in
    let r = c.next_cell-next.ensures in
    let l = cell-lt (goal.at.returns-in-Some c).In-Some in
    λ ok. iter-some (decode w.header m) c.args.cell _ _ _ (c.capacity-end.ensures ∙ capacity-is w.header m) (r.gives w.sequences.now w.values.now ok) r.counted _ c.in-Some.is (omega (arith, l, c.capacity-end.ensures)) _
    (pair-at w.header m _ l)
