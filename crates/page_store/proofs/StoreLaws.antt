-- What the lists read as once a page, its words and its block's words were written. Assumes nothing.
use mathlib.Core.Path.{◌≡◌, refl, ap, ◌∙◌}
use mathlib.Core.List.{List}
use Prim.Native.Nat.{ℕ, ◌+◌, ◌*◌, ◌/◌, ◌≤◌, ◌<◌}
use lib.ListN.{length, drop}
use Rattle.window.specs.declared.AdaptiveReceiverPacketWindow.{AdaptiveReceiverPacketWindow}
use Rattle.window.specs.Memory.{memory, page_count_of, block_count_of, words_per_page, words_per_block, RowIn}
use Rattle.window.proofs.WordListLaws.{words-length, words-past}
use Rattle.model.specs.Window.{Window, decode}
use Rattle.model.specs.Steps.{with_page}
use Rattle.page_base.specs.declared.PageWords.{PageWords}
use Rattle.page_base.specs.Page.{page_row, with_page_words, with_part, page}
use Rattle.page_base.proofs.DecodeLaws.{decode-page}
use Rattle.block_marks.specs.declared.Change.{Change}
use Rattle.block_marks.specs.Blocks.{block_row, changed}
use Rattle.block_marks.proofs.BlockLaws.{decode-changed}
use Rattle.page_store.specs.Promises.{Stores}

module _ (P : Change → Type 0) (pages blocks : List ℕ) (g : ℕ) (w : PageWords) (r : AdaptiveReceiverPacketWindow) (pages' blocks' : List ℕ)
    (t : Stores P pages blocks g w r pages' blocks') where
  abbrev pub change : Change
  change = record { window = r; block = t.block }

  pub stored-pages : length pages' ≡ length pages
  stored-pages = ap length t.pages_are ∙ words-length words_per_page pages g (page_row w)

  pub stored-blocks : length blocks' ≡ length blocks
  stored-blocks = ap length t.blocks_are ∙ words-length words_per_block blocks (g / 64) (block_row t.block)

  -- what lies past the named lengths stays
  pub pages_past : (n : ℕ) → g < n → drop (words_per_page * n) pages' ≡ drop (words_per_page * n) pages
  pages_past n l = ap (drop (words_per_page * n)) t.pages_are ∙ words-past words_per_page pages g (page_row w) refl n l

  pub blocks_past : (n : ℕ) → g / 64 < n → drop (words_per_block * n) blocks' ≡ drop (words_per_block * n) blocks
  blocks_past n l = ap (drop (words_per_block * n)) t.blocks_are ∙ words-past words_per_block blocks (g / 64) (block_row t.block) refl n l

  -- the window that the lists read as, with the page's parts written too
  pub decode-stored : (h : AdaptiveReceiverPacketWindow) (ss vs ps qs : List ℕ) → r.window_size ≡ h.window_size
      → g < page_count_of h.window_size → g / 64 < block_count_of h.window_size → RowIn words_per_page g pages → words_per_block * block_count_of h.window_size ≤ length blocks
      → 64 * g + 64 ≤ length ss → 64 * g + 64 ≤ length vs → length ps ≡ 64 → length qs ≡ 64
      → decode r (memory (with_part g ss ps) (with_part g vs qs) pages' blocks') ≡ changed (with_page (decode h (memory ss vs pages blocks)) g (page w ps qs)) (g / 64) change
  decode-stored h ss vs ps qs e l m words long first second full filled =
      (λ i. decode r (memory (with_part g ss ps) (with_part g vs qs) (t.pages_are i) (t.blocks_are i)))
      ∙ decode-changed h (memory (with_part g ss ps) (with_part g vs qs) (with_page_words pages g w) blocks) (g / 64) change e m long
      ∙ ap (λ (v : Window). changed v (g / 64) change) (decode-page (memory ss vs pages blocks) g w ps qs words first second full filled h l)
