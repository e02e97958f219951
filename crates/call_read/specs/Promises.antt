-- What the steps of the reading calls promise on a sound window; on any memory they end and stay inside the lists. Definitions only.
-- Assumes nothing.
use Rattle.std.specs.Prelude.{◌≡◌, ℕ, ◌+◌, ◌-◌, ◌*◌, ◌/◌, ◌%◌, ◌<◌, Bool, cond, ◌&&◌, List, ◌==◌, nat_lt, Option, Result, IfSome, unwrap_or}
use Rattle.std.proofs.Math.Option.{some}
use Rattle.words.specs.First.{first_from_of, first_round}
use Rattle.words.specs.Word.{is_set}
use Rattle.window.specs.declared.AdaptiveReceiverPacketWindow.{AdaptiveReceiverPacketWindow}
use Rattle.window.specs.Memory.{Memory, memory, position}
use Rattle.model.specs.Calls.{Answer, absent}
use Rattle.model.specs.Table.{Pair, covers, sequence_of, search_from, is_stranger_of, pair_answer_of}
use Rattle.model.specs.Window.{Window, decode, size_of, live_at, is_reached, reads_of, capacity_of}
use Rattle.model.specs.Sound.{Sound}
use Rattle.page_base.specs.Page.{words_at}
use Rattle.block_search.specs.declared.Select.TheVariants.{Live}
use Rattle.block_search.specs.Search.{selected_pages_of}
use Rattle.window.specs.declared.refusals.Refusal.{Refusal}
use Rattle.block_search.specs.Promises.{found_answer_of}
use Rattle.call_read.specs.declared.cells.Entered.{Entered}
use Rattle.call_read.specs.declared.cells.NextCell.{NextCell}

-- "successor_after looks from the next position round to its own, last of all"
pub record FindsRound (h : AdaptiveReceiverPacketWindow) (ss pages blocks : List ℕ) (s : ℕ) (r : Answer) : Type 0 where
  pub gives : (vs : List ℕ) → Sound (decode h (memory ss vs pages blocks))
      → r ≡ search_from (capacity_of (decode h (memory ss vs pages blocks))) (live_at (decode h (memory ss vs pages blocks))) (position h.window_size (s + 1))

-- ---- iter

-- block b entered after `reads` reads: its retired word is one read more
abbrev pub entered_at : List ℕ → (retired_blocks b reads : ℕ) → Entered
entered_at blocks retired_blocks b reads = record { live = selected_pages_of blocks retired_blocks b Live; reads = reads + 1 }

-- cell q is in use, and its page is in the word of the live pages of its block
abbrev pub is_live_cell : List ℕ → (live q : ℕ) → Bool
is_live_cell pages live q = is_set live (q / 64 % 64) && is_set (words_at pages (q / 64)).filled (q % 64)

-- the first such cell of page g from its cell `from` on, counted from 0 in the page; 64 if there is none
unfoldable pub cell_in_page_of : List ℕ → (live g from : ℕ) → ℕ
cell_in_page_of pages live g from = first_from_of (λ (c : ℕ). is_live_cell pages live (64 * g + c)) (64 - from) from

-- the first such cell of block b from start up to end; end if there is none
unfoldable pub cell_in_block_of : List ℕ → (live b start end : ℕ) → ℕ
cell_in_block_of pages live b start end = first_from_of (λ (q : ℕ). (q / 4096 == b) && is_live_cell pages live q) (end - start) start

-- the next reachable cell; the reads are counted right on every state, for the cell that was found
pub record FindsCell (h : AdaptiveReceiverPacketWindow) (pages blocks : List ℕ) (start end : ℕ) (r : NextCell) : Type 0 where
  pub bounded : IfSome r.cell (λ q. q < end)
  pub counted : r.reads ≡ reads_of end start (unwrap_or r.cell end)
  pub gives : (ss vs : List ℕ) → Sound (decode h (memory ss vs pages blocks)) → unwrap_or r.cell end ≡ first_from_of (is_reached (decode h (memory ss vs pages blocks))) (end - start) start

-- ---- stranger

-- the sequence of the first stranger at the positions from start up to end
unfoldable pub stranger_from : Window → ℕ → ℕ → ℕ → ℕ → Answer
stranger_from w start end first count =
    let q = first_from_of (λ (r : ℕ). is_stranger_of first count (live_at w r)) (end - start) start in
    cond (nat_lt q end) (sequence_of (live_at w q)) absent

pub record FindsStranger (h : AdaptiveReceiverPacketWindow) (ss pages blocks : List ℕ) (start end first count : ℕ) (r : Result (Option ℕ) Refusal) : Type 0 where
  pub gives : (vs : List ℕ) → Sound (decode h (memory ss vs pages blocks))
      → found_answer_of r ≡ stranger_from (decode h (memory ss vs pages blocks)) start end first count

-- the position is one of the range, and a stranger stands there
abbrev pub stranger_at : Window → ℕ → ℕ → ℕ → Bool
stranger_at w first count r = covers (capacity_of w) (position (size_of w) first) count r && is_stranger_of first count (live_at w r)

-- the position of the first of them; the capacity if there is none
unfoldable pub stranger_position : Window → ℕ → ℕ → ℕ
stranger_position w first count = first_round (stranger_at w first count) (capacity_of w) (position (size_of w) first)

-- the sequence there
unfoldable pub stranger_in_range : Window → ℕ → ℕ → Answer
stranger_in_range w first count = let q = stranger_position w first count in cond (nat_lt q (capacity_of w)) (sequence_of (live_at w q)) absent

pub record FindsInRange (h : AdaptiveReceiverPacketWindow) (ss pages blocks : List ℕ) (first count : ℕ) (r : Result (Option ℕ) Refusal) : Type 0 where
  pub gives : (vs : List ℕ) → Sound (decode h (memory ss vs pages blocks))
      → found_answer_of r ≡ stranger_in_range (decode h (memory ss vs pages blocks)) first count

-- the pair at the position of sequence s, if that is its sequence
pub record GivesPair (h : AdaptiveReceiverPacketWindow) (m : Memory) (s : ℕ) (r : Answer) : Type 0 where
  pub gives : Sound (decode h m) → (e : Pair) → live_at (decode h m) (position h.window_size s) ≡ some e → e.sequence ≡ s → r ≡ pair_answer_of (some e)

-- the pair at position q, if the search found the sequence there; none if q is no position
pub record GivesFound (h : AdaptiveReceiverPacketWindow) (m : Memory) (found : Result (Option ℕ) Refusal) (r : Answer) : Type 0 where
  pub gives : Sound (decode h m) → (q : ℕ) → found_answer_of found ≡ cond (nat_lt q (capacity_of (decode h m))) (sequence_of (live_at (decode h m) q)) absent
      → r ≡ cond (nat_lt q (capacity_of (decode h m))) (pair_answer_of (live_at (decode h m) q)) absent
