use Rattle.words.specs.Word.{count}
use Rattle.block_retire.proofs.CountLaws.{Counting}
use Rattle.block_retire.proofs.values_in.Given as goal

abbrev pub invariant-loop-left : goal.invariant-loop-left
invariant-loop-left l = Counting l.pages l.block l.mask l.left l.values

abbrev pub decreases-loop-left : goal.decreases-loop-left
decreases-loop-left l = count l.left
