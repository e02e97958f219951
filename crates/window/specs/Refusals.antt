-- Document 01, 'Refusal by operation': the number of each refusal, with those that requests add, and when those that calls share
-- apply.
-- Definitions only; their laws are in RefusalLaws. Assumes nothing.
use Rattle.std.specs.Prelude.{Result, Ok, Err, Bool, cond, ◌&&◌, ◌||◌, ℕ, ◌*◌, ◌^◌, ◌≤◌, eqb, ltb, leb}
use Rattle.window.specs.declared.AdaptiveReceiverPacketWindow.{AdaptiveReceiverPacketWindow}
use Rattle.window.specs.declared.refusals.Refusal.{Refusal}
use Rattle.window.specs.declared.refusals.Refusal.TheVariants.{WindowSize, SparseCells, DemoteAt, Occupied, RangeCount, ShortMemory, Unsound, Budget, Base, Sequence, ShortList, LossList}
use Rattle.window.specs.Memory.{capacity, page_count_of, block_count_of, words_per_page, words_per_block}

-- the number of each refusal
abbrev pub refusal_number_of : Refusal → ℕ
refusal_number_of WindowSize = 1
refusal_number_of SparseCells = 2
refusal_number_of DemoteAt = 3
refusal_number_of Occupied = 4
refusal_number_of RangeCount = 5
refusal_number_of ShortMemory = 6
refusal_number_of Unsound = 7
refusal_number_of Budget = 8
-- document 02, S-1: "9, a base of 2147483648 or more"
refusal_number_of Base = 9
-- S-3: "10, a sequence, first or last of 2147483648 or more"
refusal_number_of Sequence = 10
-- S-4: "11, a list shorter than the words or bytes to write"; "12, a list that the writer could write for no set of losses"
refusal_number_of ShortList = 11
refusal_number_of LossList = 12

-- of a test for refusals: 0 if it passes
abbrev pub verdict_number : Result (Unit {0}) Refusal → ℕ
verdict_number (Ok u) = 0
verdict_number (Err why) = refusal_number_of why

-- x is not one of low..high
abbrev pub outside : ℕ → ℕ → ℕ → Bool
outside low high x = ltb x low || ltb high x

-- "1 for window_size outside 1..65536, 2 for N outside 1..63, 3 for demote_at above N", in this order; 0 for none of them
unfoldable pub limits : ℕ → ℕ → ℕ → ℕ
limits size n demote_at =
    cond (outside 1 65536 size) 1
    (cond (outside 1 63 n) 2
    (cond (ltb n demote_at) 3
    0))

-- the lists, by their lengths, are as long as window_size names them
unfoldable pub long_enough_of : ℕ → ℕ → ℕ → ℕ → ℕ → Bool
long_enough_of size sequences values pages blocks =
    leb (capacity size) sequences && (leb (capacity size) values && (leb (words_per_page * page_count_of size) pages && leb (words_per_block * block_count_of size) blocks))

-- "All others: first 6, a header outside 1 to 3's limits or a list shorter than named": this does not apply
unfoldable pub fits : AdaptiveReceiverPacketWindow → ℕ → ℕ → ℕ → ℕ → Bool
fits w sequences values pages blocks =
    eqb (limits w.window_size w.n w.demote_at) 0 && long_enough_of w.window_size sequences values pages blocks

-- the same for a call that takes "a return list of at least 384"
unfoldable pub fits_with_list_of : AdaptiveReceiverPacketWindow → ℕ → ℕ → ℕ → ℕ → ℕ → Bool
fits_with_list_of w sequences values pages blocks returned = leb 384 returned && fits w sequences values pages blocks

-- document 02, S-3: "Wire numbers have 31 bits": below 2147483648
abbrev pub is_wire_number_of : ℕ → Bool
is_wire_number_of number = ltb number (2 ^ 31)

-- ---- the same as facts

-- inside the limits of refusals 1 to 3
pub record Within (size n demote_at : ℕ) : Type 0 where
  pub size_low : 1 ≤ size
  pub size_high : size ≤ 65536
  pub n_low : 1 ≤ n
  pub n_high : n ≤ 63
  pub demote : demote_at ≤ n

-- each list at least as long as window_size names it
pub record LongEnough (size sequences values pages blocks : ℕ) : Type 0 where
  pub sequences_long : capacity size ≤ sequences
  pub values_long : capacity size ≤ values
  pub pages_long : words_per_page * page_count_of size ≤ pages
  pub blocks_long : words_per_block * block_count_of size ≤ blocks

-- what a call knows of its header and lists once refusal 6 does not apply
pub record Fits (w : AdaptiveReceiverPacketWindow) (sequences values pages blocks : ℕ) : Type 0 where
  pub within : Within w.window_size w.n w.demote_at
  pub long : LongEnough w.window_size sequences values pages blocks
