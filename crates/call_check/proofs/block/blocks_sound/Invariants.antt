-- The loop has found the blocks before `block` sound. Assumes nothing.
use Rattle.std.proofs.Common.{List, ℕ, ◌<◌}
use Rattle.window.specs.Memory.{memory}
use Rattle.model.specs.Window.{decode}
use Rattle.call_check.specs.Clauses.{SoundBlock}
use Rattle.call_check.proofs.block.blocks_sound.Given as goal

abbrev pub invariant-loop-block : goal.invariant-loop-block
invariant-loop-block l = (ss vs : List ℕ) → (b : ℕ) → b < l.block → SoundBlock (decode l.w (memory ss vs l.pages l.blocks)) b
