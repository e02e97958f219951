-- The words of a block, in the lent list and as the model's block. Definitions only. Assumes nothing.
use Rattle.std.specs.Prelude.{ℕ, List, [], ◌∷◌}
use Rattle.window.specs.Memory.{words_per_block, word_at, with_words}
use Rattle.model.specs.Window.{Block, Window}
use Rattle.model.specs.Steps.{with_header, with_block, block}
use Rattle.block_marks.specs.declared.BlockWords.{BlockWords}
use Rattle.block_marks.specs.declared.Change.{Change}

-- "3 words (u64) .. for each block"
unfoldable pub block_words_at : List ℕ → ℕ → BlockWords
block_words_at blocks b = record { nonempty = word_at words_per_block blocks b 0; retired = word_at words_per_block blocks b 1; live = word_at words_per_block blocks b 2 }

-- its row in the list
abbrev pub block_row : BlockWords → List ℕ
block_row x = x.nonempty ∷ x.retired ∷ x.live ∷ []

-- the list with these words for block b
abbrev pub with_block_words : List ℕ → ℕ → BlockWords → List ℕ
with_block_words blocks b x = with_words words_per_block blocks b (block_row x)

-- the words with one of them changed
abbrev pub with_nonempty : BlockWords → ℕ → BlockWords
with_nonempty x word = record { nonempty = word; retired = x.retired; live = x.live }

abbrev pub with_retired : BlockWords → ℕ → BlockWords
with_retired x word = record { nonempty = x.nonempty; retired = word; live = x.live }

abbrev pub with_live : BlockWords → ℕ → BlockWords
with_live x count = record { nonempty = x.nonempty; retired = x.retired; live = count }

abbrev pub block_of : BlockWords → Block
block_of x = block x.nonempty x.retired x.live

-- a window with the header and the words of block b that a change left
abbrev pub changed : Window → ℕ → Change → Window
changed v b r = with_block (with_header v r.window) b (block_of r.block)
