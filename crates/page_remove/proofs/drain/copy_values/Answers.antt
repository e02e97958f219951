use native.Mathlib.Omega.{arith}
use lib.ListN.{length-set}
use Rattle.page_remove.proofs.RunLaws.{copy-turn}
use Rattle.page_remove.proofs.drain.copy_values.Goals as goal

pub loop-i-preserved : goal.loop-i-preserved
loop-i-preserved c =
    let i = c.loop-i.invariant in (
      simp length-set i.0,
      copy-turn c.args.returned.now c.args.values.now c.loop-i.returned c.args.at c.args.from c.loop-i.i (omega arith) (omega arith) i.1,
    )
