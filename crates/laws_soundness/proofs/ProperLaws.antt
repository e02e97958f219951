-- A sound state reads as a proper window. Assumes nothing.
use borrow.Author.Tests.{le-ltb}
use Rattle.window.specs.declared.AdaptiveReceiverPacketWindow.{AdaptiveReceiverPacketWindow}
use Rattle.window.specs.Memory.{Memory, page_count_of}
use Rattle.model.specs.Window.{decode}
use Rattle.model.specs.Sound.{Sound}
use Rattle.laws_soundness.specs.Change.{NothingPast, Proper}

-- a window that is read from lists has nothing past its last page
pub decode-past : (h : AdaptiveReceiverPacketWindow) (m : Memory) → NothingPast (decode h m)
unfolding decode
decode-past h m g l = rw (le-ltb g (page_count_of h.window_size) l)

-- a sound state reads as a proper window
pub proper-decode : (h : AdaptiveReceiverPacketWindow) (m : Memory) → Sound (decode h m) → Proper (decode h m)
proper-decode h m ok = record { sound = ok; past = decode-past h m }
