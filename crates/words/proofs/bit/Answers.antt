-- The shift divides by 2 ^ k, and the remainder by 2 is the bit. Assumes nothing.
use mathlib.Core.Path.{refl}
use Rattle.words.specs.Word.{bit_at}
use Rattle.words.proofs.bit.Goals as goal

pub returns : goal.returns
unfolding bit_at
returns c = refl
