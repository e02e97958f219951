-- While the loop runs, the pairs passed are put. Assumes nothing.
use Rattle.std.proofs.Common.{length, take}
use Rattle.line_text.proofs.PrintLaws.{PutSoFar, pairs_so_far}
use Rattle.line_text.proofs.print.put_pairs.Given as goal

abbrev pub invariant-loop-sequence : goal.invariant-loop-sequence
invariant-loop-sequence l = PutSoFar l.at 42 (pairs_so_far (take l.count l.sequences) (take l.count l.values)) l.initial.out (length l.yielded) l.to l.out
