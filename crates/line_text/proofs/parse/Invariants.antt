-- What is read of the line, and what is left of it, give what the whole line says. Assumes nothing.
use Rattle.line_text.proofs.LoopLaws as laws
use Rattle.line_text.proofs.parse.Given as goal

abbrev pub invariant-loop-i : goal.invariant-loop-i
invariant-loop-i l = laws.SoFar l.line l.letter l.count l.numbers l.at l.i
