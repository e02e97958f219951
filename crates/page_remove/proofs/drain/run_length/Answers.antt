-- The run ends at the first position that is not selected. Assumes nothing.
use Prim.Native.Nat.{◌-◌, ◌^◌}
use native.Mathlib.Omega.{arith}
use Rattle.words.proofs.LowestLaws.{lowest-is}
use Rattle.page_remove.proofs.drain.run_length.Goals as goal

pub overflow_sub-n : goal.overflow_sub-n
overflow_sub-n c = omega (arith, c.lowest.ensures, (lowest-is (2 ^ 64 - 1 - c.args.selected) c.args.from (omega arith)).from)
