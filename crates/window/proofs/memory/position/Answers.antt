-- The capacity is a power of two, so its predecessor masks the remainder (position-code). Assumes nothing.
use Rattle.window.proofs.MemoryLaws.{position-code}
use Rattle.window.proofs.memory.position.Goals as goal

pub returns : goal.returns
returns c = rw c.mask.ensures (position-code _ _)
