use Rattle.words.specs.Word.{count}
use Rattle.page_remove.proofs.PackLaws.{Packing}
use Rattle.page_remove.proofs.pack.Given as goal

abbrev pub invariant-loop-rest : goal.invariant-loop-rest
invariant-loop-rest l = Packing l.occupied l.rest l.next l.initial.cells l.cells

abbrev pub decreases-loop-rest : goal.decreases-loop-rest
decreases-loop-rest l = count l.rest
