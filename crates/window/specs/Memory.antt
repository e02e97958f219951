-- Document 01, 'Memory and position': how much memory a window_size names, and where a sequence stands in it.
-- Definitions only; their laws are in MemoryLaws. Assumes nothing.
use Rattle.std.specs.Prelude.{Bool, List, ◌++◌, ℕ, ◌+◌, ◌*◌, ◌/◌, ◌%◌, ◌^◌, ◌≤◌, length, get_or, drop, replicate, leb}
use Rattle.std.proofs.lemmas.List.Edits.{sets}
use Rattle.words.specs.First.{first_from_of}

-- 2 ^ k is window_size or more
abbrev pub covers : ℕ → ℕ → Bool
covers size k = leb size (2 ^ k)

-- "capacity = window_size, at least 64, raised to a power of two": the first of 2 ^ 6, 2 ^ 7, .., 2 ^ 16 that is window_size or more
unfoldable pub capacity : ℕ → ℕ
capacity size = 2 ^ first_from_of (covers size) 10 6

-- "64 positions make a page"
abbrev pub page_count_of : ℕ → ℕ
page_count_of size = capacity size / 64

-- "64 pages a block": the last block may have fewer
abbrev pub block_count_of : ℕ → ℕ
block_count_of size = (page_count_of size + 63) / 64

-- "A sequence's position is its remainder by capacity"
abbrev pub position : ℕ → ℕ → ℕ
position size sequence = sequence % capacity size

-- "3 words (u64) for each page and 3 for each block": kind, occupied, filled; nonempty pages, retired pages, live values
abbrev pub words_per_page : ℕ
words_per_page = 3

abbrev pub words_per_block : ℕ
words_per_block = 3

-- The lent memory: `capacity` sequences and `capacity` values, a row of words_per_page words for each page and one of words_per_block for each
-- block. Row k of a width begins at width × k.
pub record Memory : Type 0 where
  pub sequences : List ℕ
  pub values : List ℕ
  pub pages : List ℕ
  pub blocks : List ℕ

abbrev pub memory : List ℕ → List ℕ → List ℕ → List ℕ → Memory
memory s v p b = record { sequences = s; values = v; pages = p; blocks = b }

-- a list with its first n words set to 0
abbrev pub zeroed : ℕ → List ℕ → List ℕ
zeroed n words = replicate n 0 ++ drop n words

-- row k is in the list
abbrev pub RowIn : ℕ → ℕ → List ℕ → Type 0
RowIn width k words = width * k + width ≤ length words

-- word i of row k
abbrev pub word_at : ℕ → List ℕ → ℕ → ℕ → ℕ
word_at width words k i = get_or words (width * k + i) 0

-- a list with this row k: its words written one after the other from width × k on
unfoldable pub with_words : ℕ → List ℕ → ℕ → List ℕ → List ℕ
with_words width words k row = sets words (width * k) row
