-- The clauses of `Sound`, as the code tests them: those of one page, of one block and of the header. Definitions only. Assumes nothing.
use Rattle.std.specs.Prelude.{◌≡◌, true, false, cond, not, List, ℕ, ◌+◌, ◌-◌, ◌*◌, ◌/◌, ◌%◌, ◌^◌, ◌<◌, min, eqb}
use Rattle.words.specs.Word.{bit_at, count}
use Rattle.model.specs.Table.{sum}
use Rattle.model.specs.Demand3.{one}
use Rattle.model.specs.Window.{Window, capacity_of, pages_of, blocks_of, is_retired}
use Rattle.model.specs.Pages.{values_in_of, holds_value}
use Rattle.model.specs.Sound.{SoundPage, live_in, retired_in}
use Rattle.block_marks.specs.Blocks.{block_words_at}
use Rattle.block_marks.specs.Marks.{page_retired_of}
use Rattle.page_base.specs.Page.{words_at}

-- page g, by itself and in its block's words
pub record SoundAt (w : Window) (g : ℕ) : Type 0 where
  pub page : SoundPage w.header.n (capacity_of w) g (w.pages g)
  pub dense : is_retired w g ≡ false → (w.pages g).kind ≡ 2 → (w.header.demote_at ≡ 0 → ⊥) → w.header.demote_at < values_in_of (w.pages g)
  pub nonempty : bit_at (w.blocks (g / 64)).nonempty (g % 64) ≡ one (holds_value (w.pages g))
  pub marks : bit_at (w.blocks (g / 64)).retired (g % 64) ≡ 1 → holds_value (w.pages g) ≡ true

-- how many of n pages are in block b
abbrev pub pages_in_block_of : ℕ → ℕ → ℕ
pages_in_block_of n b = min 64 (n - 64 * b)

-- block b; "no bits past the last page"
pub record SoundBlock (w : Window) (b : ℕ) : Type 0 where
  pub summary : bit_at w.header.nonempty_summary b ≡ one (not (eqb (w.blocks b).nonempty 0))
  pub live : (w.blocks b).live ≡ sum 64 (λ (i : ℕ). live_in w (64 * b + i))
  pub nonempty_bits : (w.blocks b).nonempty < 2 ^ pages_in_block_of (pages_of w) b
  pub retired_bits : (w.blocks b).retired < 2 ^ pages_in_block_of (pages_of w) b

-- the header; "no bits past the last .. block"
pub record SoundHeader (w : Window) : Type 0 where
  pub len : w.header.len ≡ sum (pages_of w) (live_in w)
  pub held : w.header.retired_held ≡ sum (pages_of w) (retired_in w)
  pub cursor : w.header.release_cursor < pages_of w
  pub summary_bits : w.header.nonempty_summary < 2 ^ blocks_of w
  pub retired_block_bits : w.header.retired_blocks < 2 ^ blocks_of w
  pub no_block_mark : w.header.retired_held ≡ 0 → w.header.retired_blocks ≡ 0

-- the values of page g, if `retired` says of it whether it is retired: 1 or 0
abbrev pub values_at_of : List ℕ → List ℕ → ℕ → ℕ → ℕ → ℕ
values_at_of pages blocks retired_blocks retired g =
    cond (eqb (page_retired_of retired_blocks (block_words_at blocks (g / 64)) g) retired) (count (words_at pages g).occupied) 0

-- those of the n pages from `from` upwards
unfoldable pub values_where_of : List ℕ → List ℕ → ℕ → ℕ → ℕ → ℕ → ℕ
values_where_of pages blocks retired_blocks retired from n = sum n (λ (i : ℕ). values_at_of pages blocks retired_blocks retired (from + i))
