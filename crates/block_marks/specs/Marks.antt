-- Marks in words. Document 01, 'Masks and search'. Definitions only. Assumes nothing.
use Rattle.std.specs.Prelude.{ℕ, ◌-◌, ◌/◌, ◌%◌, ◌^◌, cond, not, ◌&&◌, ◌||◌}
use Rattle.words.specs.Word.{is_set, bit_at, clear_bit, word_of}
use Rattle.block_marks.specs.declared.BlockWords.{BlockWords}
use Rattle.block_marks.specs.Blocks.{with_retired}

-- "A retired block bit retires all its pages": the retired pages of block b, whose marks on pages are `retired`
unfoldable pub retired_pages_of : ℕ → ℕ → ℕ → ℕ
retired_pages_of retired_blocks retired b = cond (is_set retired_blocks b) (2 ^ 64 - 1) retired

-- page g, in the block of these words, is retired: 1 or 0
unfoldable pub page_retired_of : ℕ → BlockWords → ℕ → ℕ
page_retired_of retired_blocks x g = bit_at (retired_pages_of retired_blocks x.retired (g / 64)) (g % 64)

-- those of `pages` that hold a value and are not marked yet
unfoldable pub newly_marked : BlockWords → ℕ → ℕ
newly_marked x pages = word_of (λ (i : ℕ). is_set pages i && (is_set x.nonempty i && not (is_set x.retired i)))

-- the words with marks on `pages`, and without the mark on page i of the block
unfoldable pub with_marks : BlockWords → ℕ → BlockWords
with_marks x pages = with_retired x (word_of (λ (i : ℕ). is_set x.retired i || is_set pages i))

unfoldable pub without_mark : BlockWords → ℕ → BlockWords
without_mark x i = with_retired x (clear_bit x.retired i)
