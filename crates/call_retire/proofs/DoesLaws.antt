-- What each call does once it is admitted. Assumes nothing.
use Rattle.std.proofs.Common.{◌≡◌, ℕ, Bool, refl}
use Rattle.window.specs.declared.AdaptiveReceiverPacketWindow.{AdaptiveReceiverPacketWindow}
use Rattle.window.specs.Memory.{Memory, position}
use Rattle.model.specs.Calls.{remove_range, clear, clear_bounded, release_retired}
use Rattle.model.specs.Table.{range_count_of}
use Rattle.model.specs.Window.{decode}
use Rattle.model.specs.Steps.{range_step, clear_step, clear_bounded_step, release_step, window_does}

module _ (h : AdaptiveReceiverPacketWindow) (m : Memory) where
  pub range-does : (first last : ℕ) (listed : Bool) → range_step (decode h m) (position h.window_size first) (range_count_of first last) ≡ window_does (decode h m) (remove_range first last listed)
  unfolding window_does decode
  range-does first last listed = refl

  pub clear-does : (listed : Bool) → clear_step (decode h m) ≡ window_does (decode h m) (clear listed)
  unfolding window_does
  clear-does listed = refl

  pub clear-bounded-does : (number : ℕ) (listed : Bool) → clear_bounded_step (decode h m) number ≡ window_does (decode h m) (clear_bounded number listed)
  unfolding window_does
  clear-bounded-does number listed = refl

  pub release-does : (budget : ℕ) (listed : Bool) → release_step (decode h m) budget ≡ window_does (decode h m) (release_retired budget listed)
  unfolding window_does
  release-does budget listed = refl
