use mathlib.Core.Path.{◌≡◌}
use mathlib.Core.Bool.{false}
use Prim.Native.Nat.{ℕ, ◌<◌}
use Rattle.page_base.specs.Page.{is_at}
use Rattle.page_base.proofs.find.sparse_slot_at.Given as goal

abbrev pub invariant-loop-c : goal.invariant-loop-c
invariant-loop-c l = (k : ℕ) → k < l.c → is_at l.sequences l.filled l.slot k ≡ false
