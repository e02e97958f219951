-- What is left to release, from where the loop stands, gives what the whole gives (Passing); a turn keeps it (passing-turn). Assumes
-- nothing.
use Prim.Native.Nat.{◌-◌}
use Rattle.release_visit.proofs.BoundedLaws.{Passing}
use Rattle.release_visit.proofs.bounded.release_pages.Given as goal

abbrev pub invariant-loop-count : goal.invariant-loop-count
invariant-loop-count l =
    Passing l.initial.window l.sequences l.values l.initial.pages l.initial.blocks l.initial.returned l.at l.limit l.pages l.blocks l.returned l.window l.count l.from

abbrev pub decreases-loop-count : goal.decreases-loop-count
decreases-loop-count l = l.end - l.from
