-- What a change of the header and of one block's words promises: every window that has them becomes what the model's definition
-- gives. Definitions only. Assumes nothing.
use Rattle.std.specs.Prelude.{◌≡◌, ℕ, ◌+◌, ◌/◌, ◌^◌, ◌<◌, Bool}
use Rattle.window.specs.declared.AdaptiveReceiverPacketWindow.{AdaptiveReceiverPacketWindow}
use Rattle.model.specs.Window.{Window}
use Rattle.model.specs.Pages.{holds_value}
use Rattle.model.specs.Steps.{with_header, note_nonempty, add_live_of, sub_live_of}
use Rattle.block_marks.specs.declared.BlockWords.{BlockWords}
use Rattle.block_marks.specs.declared.Change.{Change}
use Rattle.block_marks.specs.Blocks.{block_of, changed}

-- header h and words x of block b became r, as the step says
pub record Changes (step : Window → Window) (h : AdaptiveReceiverPacketWindow) (x : BlockWords) (b : ℕ) (r : Change) : Type 0 where
  pub gives : (v : Window) → v.header ≡ h → v.blocks b ≡ block_of x → changed v b r ≡ step v

-- the header alone became r
pub record ChangesHeader (step : Window → Window) (h r : AdaptiveReceiverPacketWindow) : Type 0 where
  pub gives : (v : Window) → v.header ≡ h → with_header v r ≡ step v

-- page g holds a value now, or none
pub record Notes (h : AdaptiveReceiverPacketWindow) (x : BlockWords) (g : ℕ) (holds : Bool) (r : Change) : Type 0 where
  pub gives : (v : Window) → v.header ≡ h → v.blocks (g / 64) ≡ block_of x → holds_value (v.pages g) ≡ holds
      → changed v (g / 64) r ≡ note_nonempty v g

-- k live values more in a block, where the counts have room for them
pub record AddsLive (h : AdaptiveReceiverPacketWindow) (x : BlockWords) (k : ℕ) (r : Change) : Type 0 where
  pub gives : h.len + k < 2 ^ 32 → x.live + k < 2 ^ 64 → (b : ℕ) → Changes (λ (v : Window). add_live_of v b k) h x b r

-- k live values fewer in a block
pub record TakesLive (h : AdaptiveReceiverPacketWindow) (x : BlockWords) (k : ℕ) (r : Change) : Type 0 where
  pub gives : (b : ℕ) → Changes (λ (v : Window). sub_live_of v b k) h x b r
