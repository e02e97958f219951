-- After i turns the first i values are copied (paste). Assumes nothing.
use mathlib.Core.Path.{◌≡◌}
use lib.ListN.{length, drop}
use lib.Seq.{paste}
use Rattle.page_remove.proofs.drain.copy_values.Given as goal

abbrev pub invariant-loop-i : goal.invariant-loop-i
invariant-loop-i l = (length l.returned ≡ length l.initial.returned) × (l.returned ≡ paste l.initial.returned l.at (drop l.from l.values) l.i)
