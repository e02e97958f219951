-- What a run keeps stays so. Assumes nothing.
use Rattle.windowlines.specs.Run.{Going}
use Rattle.window.specs.Memory.{memory}
use Rattle.windowlines.proofs.main.Given as goal

abbrev pub invariant-loop : goal.invariant-loop
invariant-loop l =
    Going l.run (memory l.sequences l.values l.pages l.blocks)
