-- Marks in words: which pages they name, in the model's terms. Assumes nothing.
use Rattle.std.proofs.Common.{◌≡◌, ℕ, ◌-◌, ◌/◌, ◌%◌, ◌^◌, ◌<◌, true, false, not, ◌&&◌, ◌||◌, eqb, sym, ◌∙◌, arith}
use Rattle.words.proofs.CaseLaws.{bool}
use Rattle.words.specs.Word.{is_set}
use Rattle.model.specs.Window.{Window, is_retired}
use Rattle.block_marks.specs.declared.BlockWords.{BlockWords}
use Rattle.block_marks.specs.Blocks.{block_of}
use Rattle.block_marks.specs.Marks.{retired_pages_of, page_retired_of, newly_marked, with_marks}
use Rattle.words.proofs.TestLaws.{word_set, all_set}

-- ---- the retired pages of a block
module _ (retired_blocks retired b : ℕ) where
  pub retired-block : is_set retired_blocks b ≡ true → retired_pages_of retired_blocks retired b ≡ 2 ^ 64 - 1
  unfolding retired_pages_of
  retired-block e = rw e

  pub unretired-block : is_set retired_blocks b ≡ false → retired_pages_of retired_blocks retired b ≡ retired
  unfolding retired_pages_of
  unretired-block e = rw e

  pub retired-pages-set : (i : ℕ) → i < 64 → is_set (retired_pages_of retired_blocks retired b) i ≡ (is_set retired_blocks b || is_set retired i)
  retired-pages-set i h =
      bool (is_set retired_blocks b)
      (λ e. rw (retired-block e, e) (all_set i h))
      (λ e. rw (unretired-block e, e))

-- page_retired's answer is the model's test
pub page-retired-is : (v : Window) (retired_blocks : ℕ) (x : BlockWords) (g : ℕ)
    → v.header.retired_blocks ≡ retired_blocks → v.blocks (g / 64) ≡ block_of x → eqb (page_retired_of retired_blocks x g) 1 ≡ is_retired v g
unfolding page_retired_of
page-retired-is v retired_blocks x g e f =
    retired-pages-set retired_blocks x.retired (g / 64) (g % 64) (omega arith)
    ∙ (λ i. is_set (sym e i) (g / 64) || is_set (sym f i).retired (g % 64))

-- ---- the bits of the words that marking makes
module _ (x : BlockWords) (pages i : ℕ) (below : i < 64) where
  pub newly-marked-set : is_set (newly_marked x pages) i ≡ (is_set pages i && (is_set x.nonempty i && not (is_set x.retired i)))
  unfolding newly_marked
  newly-marked-set = word_set (λ (j : ℕ). is_set pages j && (is_set x.nonempty j && not (is_set x.retired j))) i below

  pub with-marks-set : is_set (with_marks x pages).retired i ≡ (is_set x.retired i || is_set pages i)
  unfolding with_marks
  with-marks-set = word_set (λ (j : ℕ). is_set x.retired j || is_set pages j) i below
