-- The definition is the code's writes. Assumes nothing.
use native.Mathlib.Omega.{arith}
use native.Mathlib.Numerals.{unary_clauses}
use lib.ListN.{length-set}
use Rattle.window.specs.Memory.{with_words}
use Rattle.page_base.proofs.put_page_words.Goals as goal

pub bounds-pages-a-2 : goal.bounds-pages-a-2
bounds-pages-a-2 c = simp length-set (omega arith)

pub bounds-pages-a-3 : goal.bounds-pages-a-3
bounds-pages-a-3 c = simp length-set (omega arith)

pub returns : goal.returns
unfolding with_words
returns c = simp unary_clauses
