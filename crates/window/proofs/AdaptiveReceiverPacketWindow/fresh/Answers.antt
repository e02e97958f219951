-- The header's fields, one by one. Assumes nothing.
use mathlib.Core.Path.{refl}
use Rattle.window.specs.New.{fresh}
use Rattle.window.proofs.AdaptiveReceiverPacketWindow.fresh.Goals as goal

pub returns : goal.returns
unfolding fresh
returns c = refl
