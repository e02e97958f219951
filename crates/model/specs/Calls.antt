-- The calls of documents 01 and 02 and what they answer. Definitions only. Assumes nothing.
use Rattle.std.specs.Prelude.{Bool, List, ℕ}

-- The calls that change nothing, with their arguments.
pub data Query : Type 0 where
  get : (sequence : ℕ) → Query
  successor_after : (sequence : ℕ) → Query
  first_from : (sequence : ℕ) → Query
  iter : (cell : ℕ) → Query
  stranger : (first last : ℕ) → Query
  check : Query
  -- document 02, S-4. Of a list that is written only its length is told, in `places`
  write_losses : (first last places : ℕ) → Query
  read_losses : (first last : ℕ) (words : List ℕ) (places : ℕ) → Query

-- The calls that a list of calls may hold. Of a return list only this is told, in `listed`: whether it has 384 places.
pub data Call : Type 0 where
  insert : (sequence value : ℕ) (listed : Bool) → Call
  exchange : (sequence value : ℕ) → Call
  remove : (sequence : ℕ) → Call
  remove_range : (first last : ℕ) (listed : Bool) → Call
  clear : (listed : Bool) → Call
  clear_bounded : (number : ℕ) (listed : Bool) → Call
  release_retired : (budget : ℕ) (listed : Bool) → Call
  set_base : (sequence : ℕ) → Call
  take_front : Call
  ask : (query : Query) → Call

-- What a call answers, beside its return list.
pub data Answer : Type 0 where
  -- nothing to tell: clear, set_base; check of a sound state
  done : Answer
  -- insert put a new pair
  new : Answer
  -- insert put the pair in place of this old value
  replaced : (value : ℕ) → Answer
  -- no such sequence, no live pair, no stranger
  absent : Answer
  -- a value (get, exchange, remove, take_front), a sequence (successor_after, first_from), a number (remove_range, clear_bounded,
  -- write_losses, read_losses)
  found : (number : ℕ) → Answer
  -- a pair, the cell after it and the reads of retired words (iter); a pair, 0 and 0 (stranger)
  pair : (sequence value next reads : ℕ) → Answer
  -- done, with the reads of retired words: iter from where no pair is left
  ended : (reads : ℕ) → Answer
  -- values released and units used (release_retired)
  released : (values units : ℕ) → Answer
  -- document 01's number of the refusal
  refused : (number : ℕ) → Answer
