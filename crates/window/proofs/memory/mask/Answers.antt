-- Up to 64 the capacity is 64; above, the leading zeros of window_size - 1 give the exponent (capacity-code). Assumes nothing.
use mathlib.Core.Path.{ap}
use Prim.Native.Nat.{ℕ, ◌-◌}
use native.Mathlib.Omega.{arith}
use lib.Count.{leading_le}
use Rattle.window.proofs.MemoryLaws.{capacity-small, capacity-code, capacity-ge}
use Rattle.window.proofs.memory.mask.Goals as goal

pub returns-then-window_size-le64 : goal.returns-then-window_size-le64
returns-then-window_size-le64 c = omega (arith, capacity-small c.args.window_size c.if-window_size-le64.true)

pub overflow_sub-bits-2 : goal.overflow_sub-bits-2
overflow_sub-bits-2 c = leading_le 32 _

pub overflow_sub-result : goal.overflow_sub-result
overflow_sub-result c =
    let size = c.args.window_size in
    rw (capacity-code size c.if-window_size-le64.false c.requires) (omega (arith, capacity-ge size))

pub returns : goal.returns
returns c = ap (λ (x : ℕ). x - 1) (capacity-code _ c.if-window_size-le64.false c.requires)
