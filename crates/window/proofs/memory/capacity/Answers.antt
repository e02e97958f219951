-- The capacity is 64 or more, so its predecessor and one are it. Assumes nothing.
use native.Mathlib.Omega.{arith}
use Rattle.window.proofs.MemoryLaws.{capacity-ge, capacity-le}
use Rattle.window.proofs.memory.capacity.Goals as goal

pub overflow_add-result : goal.overflow_add-result
overflow_add-result c = omega (arith, c.mask.ensures, capacity-le c.args.window_size)

pub returns : goal.returns
returns c = omega (arith, c.mask.ensures, capacity-ge c.args.window_size)
