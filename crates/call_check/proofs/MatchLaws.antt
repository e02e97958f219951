-- A page beside its block's words, over plain variables. Assumes nothing.
use mathlib.Core.Path.{◌≡◌, refl}
use mathlib.Core.Bool.{Bool, true, not}
use Prim.Native.Nat.{ℕ, ◌%◌}
use lib.Dec.{eqb}
use Rattle.words.specs.Word.{bit_at}
use Rattle.window.specs.declared.AdaptiveReceiverPacketWindow.{AdaptiveReceiverPacketWindow}
use Rattle.page_base.specs.declared.PageWords.{PageWords}
use Rattle.block_marks.specs.declared.BlockWords.{BlockWords}
use Rattle.block_marks.specs.Marks.{page_retired_of}
use Rattle.page_check.specs.Promises.{Decides}
use Rattle.call_check.specs.Promises.{BitMatches, DenseEnough, PageMatches}

-- ---- a page in its block

module _ (h : AdaptiveReceiverPacketWindow) (w : PageWords) (x : BlockWords) (g : ℕ) where
  pub matches : Decides (BitMatches x.nonempty (g % 64) w.occupied) true → (bit_at x.retired (g % 64) ≡ 1 → not (eqb w.occupied 0) ≡ true)
      → (d : Bool) → d ≡ eqb (page_retired_of h.retired_blocks x g) 1 → (r : Bool) → Decides (DenseEnough h.demote_at w d) r → Decides (PageMatches h w x g) r
  matches noted marks d e r dense =
      let c = rw e at dense in
      record {
        holds = λ b. record { dense = c.holds b; nonempty = noted.holds refl; marks = marks };
        fails = λ b q. c.fails b q.dense;
      }
