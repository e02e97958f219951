use Rattle.line_program.proofs.KeptLaws.{start-kept}
use Rattle.std.proofs.Common.{refl, arith}
use Rattle.windowlines.proofs.main.Goals as goal

pub loop-init : goal.loop-init
loop-init c = record { kept = start-kept _ _ c.fresh.ensures; from_le = omega arith; few = omega arith; nothing_waits = refl }
