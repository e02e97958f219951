-- What is left to release, from where the loop stands, gives what the whole gives (Visiting); a turn keeps it (visiting-turn). Assumes
-- nothing.
use Prim.Native.Nat.{◌-◌}
use Rattle.release_visit.proofs.VisitLaws.{Visiting}
use Rattle.release_visit.proofs.release_retired.Given as goal

abbrev pub invariant-loop-units : goal.invariant-loop-units
invariant-loop-units l =
    Visiting l.initial.window l.sequences l.values l.initial.pages l.initial.blocks l.initial.returned l.at l.budget l.pages l.blocks l.returned l.window l.count l.units

abbrev pub decreases-loop-units : goal.decreases-loop-units
decreases-loop-units l =
    l.budget - l.units
