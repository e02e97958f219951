-- Whether a page is retired, on a sound window: nothing is while no retired value is held. Assumes nothing.
use Rattle.std.proofs.Common.{◌≡◌, ℕ, ◌/◌, ◌%◌, ◌<◌, true, false, not, eqb, List, sym, refl, ap, ◌∙◌, arith, eqb-true}
use Rattle.words.proofs.CaseLaws.{bool}
use Rattle.words.specs.Word.{is_set}
use Rattle.words.proofs.BitLaws.{bit-none, bit-lt}
use Rattle.window.specs.declared.AdaptiveReceiverPacketWindow.{AdaptiveReceiverPacketWindow}
use Rattle.model.specs.Window.{Window, is_retired, pages_of}
use Rattle.model.specs.Sound.{Sound}
use Rattle.block_marks.specs.declared.BlockWords.{BlockWords}
use Rattle.block_marks.specs.Blocks.{block_words_at, block_of}
use Rattle.block_marks.specs.Marks.{page_retired_of}
use Rattle.block_marks.proofs.MarkLaws.{page-retired-is}
use Rattle.call_base.specs.Promises.{reached_by}

not-marked : (w k : ℕ) → w ≡ 0 → is_set w k ≡ false
not-marked w k e = ap (λ (x : ℕ). is_set x k) e ∙ ap (λ (d : ℕ). eqb d 1) (bit-none k)

none-retired : (v : Window) → Sound v → v.header.retired_held ≡ 0 → (g : ℕ) → g < pages_of v → true ≡ not (is_retired v g)
none-retired v ok e g l =
    rw (
      not-marked v.header.retired_blocks (g / 64) (ok.no_block_mark e),
      not-marked (v.blocks (g / 64)).retired (g % 64) (ok.no_page_mark e (g / 64) (omega arith)),
    )

pub retired-lt : (b : ℕ) (x : BlockWords) (g : ℕ) → page_retired_of b x g < 2
unfolding page_retired_of
retired-lt b x g = bit-lt _ (g % 64)

-- on a sound window with this header and these words of the page's block
pub reached-by : (v : Window) → Sound v → (h : AdaptiveReceiverPacketWindow) → v.header ≡ h → (blocks : List ℕ) (g : ℕ)
    → v.blocks (g / 64) ≡ block_of (block_words_at blocks (g / 64)) → g < pages_of v → reached_by h blocks g ≡ not (is_retired v g)
reached-by v ok h e blocks g f l = bool (eqb h.retired_held 0)
    (λ y. rw y (none-retired v ok (ap (λ (k : AdaptiveReceiverPacketWindow). k.retired_held) e ∙ eqb-true h.retired_held 0 y) g l))
    (λ y. rw y (ap not (ap (λ (k : AdaptiveReceiverPacketWindow). eqb (page_retired_of k.retired_blocks (block_words_at blocks (g / 64)) g) 1) (sym e)
    ∙ page-retired-is v v.header.retired_blocks (block_words_at blocks (g / 64)) g refl f)))

-- what the tactics know of a mark: it is 0 or 1
pub ruleset marks = (retired-lt)
