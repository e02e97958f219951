-- The loop has found the pages before `page` sound. Assumes nothing.
use Rattle.std.proofs.Common.{List, ℕ, ◌<◌}
use Rattle.window.specs.Memory.{memory}
use Rattle.model.specs.Window.{decode}
use Rattle.call_check.specs.Clauses.{SoundAt}
use Rattle.call_check.proofs.page.pages_sound.Given as goal

abbrev pub invariant-loop-page : goal.invariant-loop-page
invariant-loop-page l = (vs : List ℕ) → (g : ℕ) → g < l.page → SoundAt (decode l.w (memory l.sequences vs l.pages l.blocks)) g
