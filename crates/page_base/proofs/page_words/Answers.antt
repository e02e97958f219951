-- The definition is the code's reads. Assumes nothing.
use native.Mathlib.Nat.{add-zero}
use Rattle.page_base.specs.Page.{words_at}
use Rattle.page_base.proofs.page_words.Goals as goal

pub returns : goal.returns
unfolding words_at
returns c = rw add-zero
