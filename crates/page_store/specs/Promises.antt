-- What the bookkeeping for one changed page promises of every window that has the header and the block's words, and the page as it
-- is now: what the model's definitions say. Definitions only. Assumes nothing.
use Rattle.std.specs.Prelude.{◌≡◌, Bool, true, cond, not, List, ℕ, ◌+◌, ◌-◌, ◌/◌, ◌%◌, ◌^◌, ◌<◌, eqb}
use Rattle.words.specs.Word.{clear_bit}
use Rattle.window.specs.declared.AdaptiveReceiverPacketWindow.{AdaptiveReceiverPacketWindow}
use Rattle.window.specs.declared.Cause.{Cause}
use Rattle.model.specs.Window.{Window}
use Rattle.model.specs.Pages.{holds_value}
use Rattle.model.specs.Steps.{with_header, set_held, note_nonempty, add_live_of, sub_live_of, count_promotion_of, count_demotion_of, set_marks, drop_block_marks}
use Rattle.page_base.specs.declared.Left.{Left}
use Rattle.page_base.specs.declared.PageWords.{PageWords}
use Rattle.page_base.specs.Page.{with_page_words}
use Rattle.block_marks.specs.declared.BlockWords.{BlockWords}
use Rattle.block_marks.specs.declared.Change.{Change}
use Rattle.block_marks.specs.Blocks.{block_of, with_block_words, changed}

-- a new value in page g
abbrev pub after_insert_of : Window → ℕ → Bool → Window
after_insert_of v g promoted = add_live_of (count_promotion_of (note_nonempty v g) promoted) (g / 64) 1

-- k values out of page g, a demotion counted under cause c
abbrev pub after_remove_of : Window → ℕ → Cause → Bool → ℕ → Window
after_remove_of v g c demoted k = count_demotion_of c (note_nonempty (sub_live_of v (g / 64) k) g) demoted

-- whether a removal left a value
abbrev pub any_left : Left → Bool
any_left left = not (eqb left.values 0)

-- k values out of page g, which is retired; "an emptied page loses its mark"
abbrev pub note_released : Window → ℕ → ℕ → Window
note_released v g k = note_nonempty (with_header v (set_held v.header (v.header.retired_held - k))) g

abbrev pub without_mark : Window → ℕ → Window
without_mark v g = drop_block_marks (set_marks v (g / 64) (clear_bit (v.blocks (g / 64)).retired (g % 64)))

abbrev pub after_release : Window → ℕ → ℕ → Window
after_release v g k = cond (holds_value (v.pages g)) (note_released v g k) (without_mark (note_released v g k) g)

module _ (h : AdaptiveReceiverPacketWindow) (x : BlockWords) (g : ℕ) where
  -- where the counts have room
  pub record Inserted (promoted : Bool) (r : Change) : Type 0 where
    pub gives : (v : Window) → v.header ≡ h → v.blocks (g / 64) ≡ block_of x → holds_value (v.pages g) ≡ true
        → h.len + 1 < 2 ^ 32 → x.live + 1 < 2 ^ 64 → changed v (g / 64) r ≡ after_insert_of v g promoted

  pub record Removed (left : Left) (c : Cause) (k : ℕ) (r : Change) : Type 0 where
    pub gives : (v : Window) → v.header ≡ h → v.blocks (g / 64) ≡ block_of x → holds_value (v.pages g) ≡ any_left left
        → changed v (g / 64) r ≡ after_remove_of v g c left.demoted k

  pub record Released (holds : Bool) (k : ℕ) (r : Change) : Type 0 where
    pub gives : (v : Window) → v.header ≡ h → v.blocks (g / 64) ≡ block_of x → holds_value (v.pages g) ≡ holds
        → changed v (g / 64) r ≡ after_release v g k

-- ---- in the lent lists

-- whether words are those of a page that holds a value
abbrev pub holds : PageWords → Bool
holds w = not (eqb w.occupied 0)

-- the words of page g written, and those of its block, which changed with the header as P says
pub record Stores (P : Change → Type 0) (pages blocks : List ℕ) (g : ℕ) (w : PageWords) (r : AdaptiveReceiverPacketWindow) (pages' blocks' : List ℕ) : Type 0 where
  pub block : BlockWords
  pub pages_are : pages' ≡ with_page_words pages g w
  pub blocks_are : blocks' ≡ with_block_words blocks (g / 64) block
  pub changes : P (record { window = r; block = block })
