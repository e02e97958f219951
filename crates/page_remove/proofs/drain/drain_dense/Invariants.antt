-- Each turn drains a position, which is a turn of the search by cells, since the cell of a dense page's value is its position
-- (DenseLaws), or several in a row: what as many turns for single positions leave (RunLaws). Assumes nothing.
use Prim.Native.Nat.{◌-◌}
use Rattle.page_remove.proofs.DenseLaws.{DrainingDense}
use Rattle.page_remove.proofs.drain.drain_dense.Given as goal

abbrev pub invariant-loop-selected : goal.invariant-loop-selected
invariant-loop-selected l =
    DrainingDense l.occupied l.values l.slots l.at l.limit l.initial.returned l.returned l.selected l.count

abbrev pub decreases-loop-selected : goal.decreases-loop-selected
decreases-loop-selected l =
    l.limit - l.count
