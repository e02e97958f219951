-- Each turn looks at the lowest block left and takes it out: no page of a block that is out is selected (Left, of SearchLoopLaws). Assumes nothing.
use Rattle.words.specs.Word.{count}
use Rattle.block_search.proofs.SearchLoopLaws.{Left}
use Rattle.block_search.proofs.next_page.Given as goal

abbrev pub invariant-loop-summary : goal.invariant-loop-summary
invariant-loop-summary l = Left l.blocks l.nonempty_summary l.retired_blocks l.start l.end l.select l.summary

abbrev pub decreases-loop-summary : goal.decreases-loop-summary
decreases-loop-summary l = count l.summary
