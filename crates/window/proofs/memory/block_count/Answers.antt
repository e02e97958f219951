-- There are at most 1024 pages, so the sum fits. Assumes nothing.
use native.Mathlib.Omega.{arith}
use Rattle.window.proofs.MemoryLaws.{page-count-le}
use Rattle.window.proofs.memory.block_count.Goals as goal

pub overflow_add-result : goal.overflow_add-result
overflow_add-result c = omega (arith, c.page_count.ensures, page-count-le c.args.window_size)
