-- A retired page made live again, over plain variables: its block's mark split, then what the page holds handed back. Assumes nothing.
use mathlib.Core.Path.{◌≡◌, refl, sym, ap, ◌∙◌}
use mathlib.Core.Bool.{Bool, true, false, cond, ◌||◌}
use mathlib.Core.List.{List, []}
use Prim.Native.Nat.{ℕ, ◌*◌, ◌/◌, ◌%◌, ◌<◌}
use native.Mathlib.Omega.{arith}
use lib.ListN.{length, drop}
use borrow.Author.Tests.{eq-eqb, ne_eqb}
use Rattle.words.proofs.CaseLaws.{bool}
use Rattle.words.specs.Word.{bit_at, is_set, clear_bit}
use Rattle.words.proofs.ChangeLaws.{with-same}
use Rattle.window.specs.declared.AdaptiveReceiverPacketWindow.{AdaptiveReceiverPacketWindow}
use Rattle.window.specs.Memory.{memory, block_count_of, words_per_block}
use Rattle.window.proofs.WordListLaws.{words-length, words-past}
use Rattle.model.specs.Window.{Block, Window, decode, is_retired}
use Rattle.model.specs.Steps.{Returned, returned_by, with_block, split_block, release_page_of, revive}
use Rattle.page_base.proofs.DecodeLaws.{header_at}
use Rattle.block_marks.specs.declared.BlockWords.{BlockWords}
use Rattle.block_marks.specs.declared.Change.{Change}
use Rattle.block_marks.specs.Blocks.{block_words_at, block_row, with_block_words, block_of, changed}
use Rattle.block_marks.specs.Promises.{Changes}
use Rattle.block_marks.proofs.BlockLaws.{block_at, decode-changed}
use Rattle.page_release.specs.declared.PageReleased.{PageReleased}
use Rattle.page_release.specs.Promises.{Within, Inside, ReleasesPage, Revives}

-- ---- the model's revival of a retired page

module _ (w : Window) (g : ℕ) (retired : is_retired w g ≡ true) where
  abbrev split : Window
  split = split_block w (g / 64)

  after-split : (marked : Bool) → is_retired split g ≡ marked → revive w g ≡ cond marked (release_page_of split g 64) (returned_by split [])
  unfolding revive
  after-split marked e = λ i. cond (retired i) (cond (e i) (release_page_of split g 64) (returned_by split [])) (returned_by w [])

-- ---- a split block

module _ (v : Window) (b : ℕ) where
  split-size : (split_block v b).header.window_size ≡ v.header.window_size
  unfolding split_block
  split-size = bool (is_set v.header.retired_blocks b) (λ e. rw e) (λ e. rw e)

  -- it has no mark
  split-clear : is_set (split_block v b).header.retired_blocks b ≡ false
  unfolding split_block
  split-clear =
      let w = v.header.retired_blocks in
      bool (is_set w b)
      (λ e. rw e (ne_eqb (bit_at (clear_bit w b) b) 1 (λ q. omega (arith, q, with-same w b 0 (omega arith)))))
      (λ e. rw e e)

block_same : (v : Window) (b : ℕ) (x : Block) → (with_block v b x).blocks b ≡ x
block_same v b x = rw (eq-eqb b b refl)

-- ---- the code's steps

module _ (h : AdaptiveReceiverPacketWindow) (n : ℕ) (ss vs pages blocks l : List ℕ) (g : ℕ) (x : BlockWords) (c : Change) (blocks₁ : List ℕ)
    (found : x ≡ block_words_at blocks (g / 64)) (made : Changes (λ (v : Window). split_block v (g / 64)) h x (g / 64) c)
    (put : blocks₁ ≡ with_block_words blocks (g / 64) c.block) where
  abbrev b : ℕ
  b = g / 64

  abbrev v : Window
  v = decode h (memory ss vs pages blocks)

  put-within : Within pages blocks g pages blocks₁
  put-within = record {
    pages_long = refl;
    blocks_long = ap (λ (y : List ℕ). length y) put ∙ words-length words_per_block blocks b (block_row c.block);
    pages_past = λ k m. refl;
    blocks_past = λ k m. ap (drop (words_per_block * k)) put ∙ words-past words_per_block blocks b (block_row c.block) refl k m;
  }

  module _ (i : Inside h n ss vs pages blocks l g) where
    block-below : b < block_count_of h.window_size
    block-below = omega (arith, i.below)

    split-is : changed v b c ≡ split_block v b
    split-is = made.gives v (header_at h (memory ss vs pages blocks)) (block_at h (memory ss vs pages blocks) b block-below ∙ ap block_of (sym found))

    size-kept : c.window.window_size ≡ h.window_size
    size-kept = ap (λ (y : Window). y.header.window_size) split-is ∙ split-size v b
        ∙ ap (λ (y : AdaptiveReceiverPacketWindow). y.window_size) (header_at h (memory ss vs pages blocks))

    -- the window that the lists read as once the block is split
    split-read : decode c.window (memory ss vs pages blocks₁) ≡ split_block v b
    split-read =
        ap (λ (y : List ℕ). decode c.window (memory ss vs pages y)) put
        ∙ decode-changed h (memory ss vs pages blocks) b c size-kept block-below i.blocks_long ∙ split-is

    -- its page is retired just if it is marked
    marked-is : is_retired (split_block v b) g ≡ is_set c.block.retired (g % 64)
    marked-is =
        ap (λ (t : Bool). t || is_set ((split_block v b).blocks b).retired (g % 64)) (split-clear v b)
        ∙ ap (λ (y : Window). is_set (y.blocks b).retired (g % 64)) (sym split-is)
        ∙ ap (λ (y : Block). is_set y.retired (g % 64)) (block_same v b (block_of c.block))

    split-inside : Inside c.window n ss vs pages blocks₁ l g
    split-inside = record {
      below = rw size-kept i.below;
      blocks_long = rw (size-kept, put-within.blocks_long) i.blocks_long;
      placed = i.placed;
    }

    -- what the model's revival then is, as the page's mark says
    revival : (marked : Bool) → is_set c.block.retired (g % 64) ≡ marked → is_retired v g ≡ true
        → revive v g ≡ cond marked (release_page_of (split_block v b) g 64) (returned_by (split_block v b) [])
    revival marked e retired = after-split v g retired marked (marked-is ∙ e)

  -- a page without a mark once its block is split: nothing to hand back
  pub revived-empty : is_set c.block.retired (g % 64) ≡ false
      → Revives h n ss vs pages blocks l g (record { window = c.window; count = 0; sound = true }) pages blocks₁ l
  revived-empty unmarked = record {
    within = put-within;
    wrote = record { before = refl; past = refl; long = refl };
    few = omega arith;
    sound = λ i. refl;
    gives = λ i retired. split-read i ∙ sym (ap (λ (y : Returned). y.after) (revival i false unmarked retired));
    out = λ i retired. sym (ap (λ (y : Returned). y.out) (revival i false unmarked retired));
  }

  -- a page with a mark: what it holds is handed back
  pub revived-marked : (r : PageReleased) (pages' blocks' l' : List ℕ) → is_set c.block.retired (g % 64) ≡ true
      → ReleasesPage c.window n ss vs pages blocks₁ l g 0 64 r pages' blocks' l' → Revives h n ss vs pages blocks l g r pages' blocks' l'
  revived-marked r pages' blocks' l' marked t = record {
    within = record {
      pages_long = t.within.pages_long;
      blocks_long = t.within.blocks_long ∙ put-within.blocks_long;
      pages_past = t.within.pages_past;
      blocks_past = λ k m. t.within.blocks_past k m ∙ put-within.blocks_past k m;
    };
    wrote = t.wrote;
    few = t.few;
    sound = λ i. t.sound (split-inside i);
    gives = λ i retired.
        t.gives (split-inside i) ∙ ap (λ (y : Window). (release_page_of y g 64).after) (split-read i)
        ∙ sym (ap (λ (y : Returned). y.after) (revival i true marked retired));
    out = λ i retired.
        t.out (split-inside i) ∙ ap (λ (y : Window). (release_page_of y g 64).out) (split-read i)
        ∙ sym (ap (λ (y : Returned). y.out) (revival i true marked retired));
  }
