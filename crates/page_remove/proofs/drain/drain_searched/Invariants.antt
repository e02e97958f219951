use Prim.Native.Nat.{◌-◌}
use Rattle.page_remove.proofs.DrainLoopLaws.{Draining}
use Rattle.page_remove.proofs.drain.drain_searched.Given as goal

abbrev pub invariant-loop-count : goal.invariant-loop-count
invariant-loop-count l =
    Draining l.n l.initial.left l.sequences l.values l.slots l.at l.limit l.initial.returned l.returned l.left l.count l.sound

abbrev pub decreases-loop-count : goal.decreases-loop-count
decreases-loop-count l =
    l.limit - l.count
