use Rattle.words.specs.Word.{count}
use Rattle.block_retire.proofs.BlockLaws.{Marking}
use Rattle.block_retire.proofs.retire_blocks.Given as goal

abbrev pub invariant-loop-left : goal.invariant-loop-left
invariant-loop-left l = Marking l.initial.window l.initial.blocks l.mask l.initial.left l.left l.window l.blocks

abbrev pub decreases-loop-left : goal.decreases-loop-left
decreases-loop-left l = count l.left
