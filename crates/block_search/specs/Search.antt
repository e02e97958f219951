-- What the searches look for. Document 01, 'Masks and search'. Definitions only. Assumes nothing.
use Rattle.std.specs.Prelude.{Bool, not, ◌&&◌, ◌||◌, List, ℕ, ◌+◌, ◌*◌, ◌/◌, ◌%◌}
use Rattle.words.specs.Word.{is_set, word_of}
use Rattle.model.specs.Table.{within}
use Rattle.block_marks.specs.Blocks.{block_words_at}
use Rattle.block_search.specs.declared.Select.{Select}
use Rattle.block_search.specs.declared.Select.TheVariants.{Nonempty, Live, Retired}

-- the bits of word b of a row of words that are among the bits start up to end of the row
unfoldable pub bits_within_of : ℕ → ℕ → ℕ → ℕ
bits_within_of start end b = word_of (λ (i : ℕ). within start end (64 * b + i))

-- a page that holds a value, of which `retired` says whether it is retired, is one that is looked for
abbrev pub chosen : Select → Bool → Bool
chosen Nonempty retired = Bool.true
chosen Live retired = not retired
chosen Retired retired = retired

-- page g is retired: its mark, or its block's
abbrev pub marked_in : List ℕ → ℕ → ℕ → Bool
marked_in blocks retired_blocks g = is_set retired_blocks (g / 64) || is_set (block_words_at blocks (g / 64)).retired (g % 64)

-- page g holds a value, as its block's word and the summary say, and is one that is looked for
unfoldable pub is_selected : List ℕ → ℕ → ℕ → Select → ℕ → Bool
is_selected blocks summary retired_blocks select g =
    is_set summary (g / 64) && (is_set (block_words_at blocks (g / 64)).nonempty (g % 64) && chosen select (marked_in blocks retired_blocks g))

-- the pages of block b that hold a value and are looked for
unfoldable pub selected_pages_of : List ℕ → ℕ → ℕ → Select → ℕ
selected_pages_of blocks retired_blocks b select =
    word_of (λ (i : ℕ). is_set (block_words_at blocks b).nonempty i && chosen select (is_set retired_blocks b || is_set (block_words_at blocks b).retired i))
