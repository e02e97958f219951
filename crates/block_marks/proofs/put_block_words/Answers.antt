-- The definition is the code's writes. Assumes nothing.
use Rattle.std.proofs.Common.{arith, length-set}
use native.Mathlib.Numerals.{unary_clauses}
use Rattle.window.specs.Memory.{with_words}
use Rattle.block_marks.proofs.put_block_words.Goals as goal

pub bounds-blocks-a-2 : goal.bounds-blocks-a-2
bounds-blocks-a-2 c = simp length-set (omega arith)

pub bounds-blocks-a-3 : goal.bounds-blocks-a-3
bounds-blocks-a-3 c = simp length-set (omega arith)

pub returns : goal.returns
unfolding with_words
returns c = simp unary_clauses
