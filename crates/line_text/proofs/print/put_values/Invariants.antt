-- While the loop runs, the values passed are put. Assumes nothing.
use Rattle.std.proofs.Common.{take}
use Rattle.line_text.proofs.PrintLaws.{PutSoFar, values_so_far}
use Rattle.line_text.proofs.print.put_values.Given as goal

abbrev pub invariant-loop-value : goal.invariant-loop-value
invariant-loop-value l = PutSoFar l.at 21 (values_so_far (take l.count l.values)) l.initial.out l.value-index l.to l.out
