-- What `reachable` says of a sound window read from the lent lists. Assumes nothing.
use Rattle.std.proofs.Common.{◌≡◌, ℕ, ◌/◌, ◌<◌, Bool, true, false, not, sym, refl, ◌∙◌}
use borrow.Author.Tests.{not-true, not-false}
use Rattle.window.specs.declared.AdaptiveReceiverPacketWindow.{AdaptiveReceiverPacketWindow}
use Rattle.window.specs.Memory.{Memory, page_count_of}
use Rattle.model.specs.Window.{decode, is_retired}
use Rattle.model.specs.Sound.{Sound}
use Rattle.block_marks.proofs.BlockLaws.{block_at}
use Rattle.call_base.specs.Promises.{reached_by, Reachable}
use Rattle.call_base.proofs.FitLaws.{page-bounds}
use Rattle.call_base.proofs.RetiredLaws.{reached-by}

module _ (h : AdaptiveReceiverPacketWindow) (m : Memory) (ok : Sound (decode h m)) (g : ℕ) (below : g < page_count_of h.window_size) where
  pub reached-live : reached_by h m.blocks g ≡ not (is_retired (decode h m) g)
  unfolding decode
  reached-live = reached-by (decode h m) ok h refl m.blocks g (block_at h m (g / 64) (page-bounds h.window_size g below).block) below

  module _ (r : Bool) (is : Reachable h m.blocks g r) where
    pub unreachable : r ≡ false → is_retired (decode h m) g ≡ true
    unreachable z = not-false _ (sym reached-live ∙ sym is ∙ z)

    pub is-reachable : r ≡ true → is_retired (decode h m) g ≡ false
    is-reachable t = not-true _ (sym reached-live ∙ sym is ∙ t)
