-- Document 01 on new: "1 for window_size outside 1..65536, 2 for N outside 1..63, 3 for demote_at above N, 6 for short memory, in this
-- order. It sets every page and block word and the header's other fields to 0 and writes nothing else."
-- Definitions only; their laws are in NewLaws. Assumes nothing.
use Rattle.std.specs.Prelude.{Result, Ok, Err, ◌≡◌, cond, ℕ, zero, suc, ◌*◌, length}
use Rattle.window.specs.declared.AdaptiveReceiverPacketWindow.{AdaptiveReceiverPacketWindow}
use Rattle.window.specs.declared.refusals.Refusal.{Refusal}
use Rattle.window.specs.Memory.{Memory, memory, page_count_of, block_count_of, words_per_page, words_per_block, zeroed}
use Rattle.window.specs.Refusals.{refusal_number_of, limits, long_enough_of}
use Rattle.window.specs.Lent.{Lent, found_in, left_in}

-- what new answers in document 01's terms: the new header, or the number of a refusal
pub data NewAnswer : Type 0 where
  made : AdaptiveReceiverPacketWindow → NewAnswer
  refused : ℕ → NewAnswer

abbrev pub answer_of : Result AdaptiveReceiverPacketWindow Refusal → NewAnswer
answer_of (Ok w) = made w
answer_of (Err why) = refused (refusal_number_of why)

-- the answer, and the lent memory after the call
pub record NewResult : Type 0 where
  pub answer : NewAnswer
  pub after : Memory

abbrev pub new_result : NewAnswer → Memory → NewResult
new_result a m = record { answer = a; after = m }

-- "the header's other fields" are 0
unfoldable pub fresh : ℕ → ℕ → ℕ → AdaptiveReceiverPacketWindow
fresh size n demote_at =
    record {
      window_size = size;
      n = n;
      demote_at = demote_at;
      len = 0;
      retired_held = 0;
      release_cursor = 0;
      base = 0;
      point = 0;
      nonempty_summary = 0;
      retired_blocks = 0;
      promotions = 0;
      single_demotions = 0;
      range_demotions = 0;
    }

-- "every page and block word" is 0, and nothing else is written
unfoldable pub cleared : ℕ → Memory → Memory
cleared size m =
    memory m.sequences m.values (zeroed (words_per_page * page_count_of size) m.pages) (zeroed (words_per_block * block_count_of size) m.blocks)

-- "6 for short memory"
unfoldable pub short_memory : ℕ → Memory → ℕ
short_memory size m =
    cond (long_enough_of size (length m.sequences) (length m.values) (length m.pages) (length m.blocks)) 0 6

-- a refusal k leaves the memory as it came; 0 is none
abbrev pub unless_refused : ℕ → Memory → NewResult → NewResult
unless_refused zero m r = r
unless_refused (suc k) m r = new_result (refused (suc k)) m

unfoldable pub new_of : Memory → ℕ → ℕ → ℕ → NewResult
new_of m size n demote_at =
    unless_refused (limits size n demote_at) m
    (unless_refused (short_memory size m) m
    (new_result (made (fresh size n demote_at)) (cleared size m)))

-- as a signature says it
abbrev pub NewBy : (size n demote_at : ℕ) → (sequences values pages blocks : Lent) → Result AdaptiveReceiverPacketWindow Refusal → Type 0
NewBy size n demote_at ss vs pages blocks r = new_result (answer_of r) (left_in ss vs pages blocks) ≡ new_of (found_in ss vs pages blocks) size n demote_at
