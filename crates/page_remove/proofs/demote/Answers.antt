use mathlib.Core.Path.{ap, ◌∙◌}
use Prim.Native.Nat.{ℕ}
use native.Mathlib.Omega.{arith}
use Rattle.words.specs.Word.{span}
use Rattle.words.proofs.CountLaws.{count-le}
use Rattle.model.specs.Pages.{packed}
use Rattle.page_remove.specs.Remove.{packed_cells}
use Rattle.page_remove.proofs.demote.Goals as goal

pub span-filled-requires : goal.span-filled-requires
span-filled-requires c = (omega (arith, c.count.ensures), omega (arith, c.count.ensures, count-le 64 c.args.w.occupied))

pub returns : goal.returns
unfolding packed packed_cells
returns c = λ i. record {
  kind = 1;
  occupied = c.args.w.occupied;
  filled = (c.span-filled.ensures ∙ ap (λ (k : ℕ). span 0 k) c.count.ensures) i;
  sequences = c.pack.ensures i;
  values = c.pack-2.ensures i;
}
