use Rattle.std.proofs.Common.{◌≡◌}
use Rattle.block_retire.specs.Retire.{without_live}
use Rattle.block_retire.proofs.clear_live.Given as goal

abbrev pub invariant-loop-block : goal.invariant-loop-block
invariant-loop-block l = l.blocks ≡ without_live l.block l.initial.blocks
