use mathlib.Core.Path.{◌≡◌}
use lib.ListN.{length}
use Rattle.page_insert.specs.Insert.{spread}
use Rattle.page_insert.proofs.spread.Given as goal

abbrev pub invariant-loop-c : goal.invariant-loop-c
invariant-loop-c l = (length l.cells ≡ length l.initial.cells) × (l.cells ≡ spread l.sequences l.from l.c l.initial.cells)
