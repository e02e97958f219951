use Prim.Native.Nat.{◌-◌, ◌/◌, ◌≤◌}
use Rattle.block_search.specs.declared.Select.TheVariants.{Live}
use Rattle.block_search.specs.Search.{is_selected}
use Rattle.block_search.proofs.WalkLaws.{Passed}
use Rattle.block_search.proofs.WalkLoopLaws.{occupied_in}
use Rattle.block_search.proofs.walk.find_live.Given as goal

abbrev pub invariant-loop-page : goal.invariant-loop-page
invariant-loop-page l =
    (l.from ≤ l.stop) × Passed (is_selected l.blocks l.nonempty_summary l.retired_blocks Live) (occupied_in l.pages l.start l.end) (l.start / 64) l.from

abbrev pub decreases-loop-page : goal.decreases-loop-page
decreases-loop-page l = l.stop - l.from
