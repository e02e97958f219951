-- What holds at each turn of the loops that write a loss list and read one. `lost` says of each distance whether its sequence is lost.
-- Definitions only. Assumes nothing.
use Rattle.std.specs.Prelude.{◌≡◌, Bool, cond, List, ◌++◌, map, ℕ, zero, suc, ◌+◌, ◌-◌, ◌^◌, ◌≤◌, ltb, length, drop}
use Rattle.std.proofs.Math.Option.{Option}
use Rattle.model.specs.Table.{sequence_at_of}
use Rattle.model.specs.Losses.{flags_from, words_from, loss_words, loss_bytes, lost_count}
use Rattle.laws_losses.specs.Marks.{mark_of}
use Rattle.laws_losses.specs.Reading.{Place, onto, read_from, read_list, is_taken}

-- ---- the words of a run

abbrev pub run_count_of : ℕ → ℕ
run_count_of zero = 0
run_count_of (suc zero) = 1
run_count_of (suc (suc k)) = 2

abbrev pub first_word : ℕ → ℕ → ℕ → ℕ
first_word first s k = cond (ltb k 3) (sequence_at_of first s) (2 ^ 31 + sequence_at_of first s)

-- ---- the writer

-- what is left to write at distance d of n, where a run of k from s came just before
abbrev pub words_left : (lost : ℕ → Bool) → (first n s k d : ℕ) → List ℕ
words_left lost first n s k d = words_from first s k (flags_from lost d (n - d))

-- the first i entries of a lent list are these, and those past them are as they were
pub record Filled (before now : List ℕ) (i : ℕ) (entries : List ℕ) : Type 0 where
  pub long : length entries ≡ i
  pub list : now ≡ entries ++ drop i before

-- the writer there, with i words written
pub record Wrote (lost : ℕ → Bool) (first n : ℕ) (before : List ℕ) (s k d i : ℕ) (now : List ℕ) : Type 0 where
  pub words : List ℕ
  pub filled : Filled before now i words
  pub run : s + k ≡ d
  pub left : words ++ words_left lost first n s k d ≡ loss_words first (flags_from lost 0 n)

-- the words counted there, c so far
pub record Counted (lost : ℕ → Bool) (first n k d c : ℕ) : Type 0 where
  pub run : k ≤ d
  pub left : c + length (words_left lost first n (d - k) k d) ≡ length (loss_words first (flags_from lost 0 n))

-- ---- the reader

-- what the words from index i on say at a place
abbrev pub rest_read : ℕ → ℕ → Place → ℕ → List ℕ → Option (List Bool)
rest_read first n p i l = read_from n p (map (mark_of first) (drop i l))

-- the reader before word i, at a place
pub record Read (first n : ℕ) (l : List ℕ) (p : Place) (i : ℕ) : Type 0 where
  pub left : is_taken (read_list first n l) ≡ is_taken (rest_read first n p i l)

-- and where it writes the bytes too, and counts
pub record Told (first n : ℕ) (l before : List ℕ) (p : Place) (i c : ℕ) (now : List ℕ) : Type 0 where
  pub flags : List Bool
  pub filled : Filled before now p.at (loss_bytes flags)
  pub count : c ≡ lost_count flags
  pub left : read_list first n l ≡ onto flags (rest_read first n p i l)
