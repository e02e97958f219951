-- Document 01, 'The plain table', the base of document 02, S-1, and the loss lists of S-4. It is fed window_size and the calls' arguments alone. Definitions only. Assumes nothing.
use Rattle.std.specs.Prelude.{Bool, true, false, cond, ◌&&◌, ◌||◌, List, ℕ, zero, suc, ◌+◌, leb, ltb, eqb, length}
use Rattle.std.proofs.Math.Option.{Option, none, some}
use Rattle.words.specs.First.{first_round}
use Rattle.window.specs.Memory.{capacity, position}
use Rattle.window.specs.Refusals.{is_wire_number_of}
pub use Rattle.model.specs.Sequences.{sequence_at_of}
unfoldable pub use Rattle.model.specs.Sequences.{distance}
use Rattle.model.specs.Losses.{loss_flags, loss_words, named_flags, is_loss_list_of, lost_count}
use Rattle.model.specs.Calls.{Query, get, successor_after, first_from, iter, stranger, check, write_losses, read_losses, Call, insert, exchange, remove, remove_range, clear, clear_bounded, release_retired, set_base, take_front, ask, Answer, done, new, replaced, absent, found, pair, refused}
use Rattle.model.specs.Roles.{Arguments, no_argument, sequence_argument, range_argument, number_argument, base_argument, report_argument, role_of}

pub record Pair : Type 0 where
  pub sequence : ℕ
  pub value : ℕ

abbrev pub pair_of : ℕ → ℕ → Pair
pair_of s v = record { sequence = s; value = v }

-- at each position nothing or one (sequence, value)
abbrev pub Table : Type 0
Table = ℕ → Option Pair

abbrev pub fresh : Table
fresh position = none

-- the table with this at position p
abbrev pub at : Table → ℕ → Option Pair → Table
at t p o q = cond (eqb q p) o (t q)

-- ---- one position

-- whether there is a pair; the same as a number
abbrev pub holds : Option Pair → Bool
holds none = false
holds (some e) = true

abbrev pub held : Option Pair → ℕ
held none = 0
held (some e) = 1

-- whether the pair there is this sequence's
abbrev pub finds : ℕ → Option Pair → Bool
finds s none = false
finds s (some e) = eqb e.sequence s

-- "get: the value if the sequence matches"
abbrev pub value_if : ℕ → Option Pair → Answer
value_if s none = absent
value_if s (some e) = cond (eqb e.sequence s) (found e.value) absent

-- "insert: nothing there, put; same sequence, put and give the old value; else refuse 4": what is there after, and the answer
abbrev pub put_at : ℕ → ℕ → Option Pair → Option Pair
put_at s v none = some (pair_of s v)
put_at s v (some e) = cond (eqb e.sequence s) (some (pair_of s v)) (some e)

abbrev pub put_answer_of : ℕ → Option Pair → Answer
put_answer_of s none = new
put_answer_of s (some e) = cond (eqb e.sequence s) (replaced e.value) (refused 4)

-- "exchange: as get; if it matches, the new value is put"
abbrev pub exchange_at : ℕ → ℕ → Option Pair → Option Pair
exchange_at s v none = none
exchange_at s v (some e) = cond (eqb e.sequence s) (some (pair_of s v)) (some e)

-- "remove: as get; if it matches, nothing is there after"
abbrev pub remove_at : ℕ → Option Pair → Option Pair
remove_at s none = none
remove_at s (some e) = cond (eqb e.sequence s) none (some e)

-- ---- ranges of positions

-- "count = ((last − first) modulo 2^32, lowest 31 bits) + 1"
unfoldable pub range_count_of : ℕ → ℕ → ℕ
range_count_of first last = distance first last + 1

-- q is one of a, a + 1, .. below e
abbrev pub within : ℕ → ℕ → ℕ → Bool
within a e q = leb a q && ltb q e

-- "The positions are count in a row from first's, wrapping at capacity": q is one of them, or is so once round
abbrev pub covers : ℕ → ℕ → ℕ → ℕ → Bool
covers cap start count q = within start (start + count) q || within start (start + count) (q + cap)

unfoldable pub sum : ℕ → (ℕ → ℕ) → ℕ
sum zero f = 0
sum (suc n) f = sum n f + f n

-- "remove_range: empty its positions, give how many held a pair"
abbrev pub empty_range : ℕ → ℕ → ℕ → Table → Table
empty_range cap start count t q = cond (covers cap start count q) none (t q)

unfoldable pub held_in_range : ℕ → ℕ → ℕ → Table → ℕ
unfolding sum
held_in_range cap start count t = sum cap (λ (q : ℕ). cond (covers cap start count q) (held (t q)) 0)

-- ---- searches

abbrev pub sequence_of : Option Pair → Answer
sequence_of none = absent
sequence_of (some e) = found e.sequence

-- the sequence of the first pair from position p upwards, then round; none if the table is empty
unfoldable pub search_from : ℕ → Table → ℕ → Answer
search_from cap t p =
    let q = first_round (λ (r : ℕ). holds (t r)) cap p in
    cond (ltb q cap) (sequence_of (t q)) absent

-- ---- stranger

-- a sequence's "distance from first (as in count, less 1) is count or more". (Document 02, S-3: "stranger's clause on the top bit"
-- goes.)
abbrev pub is_stranger_of : ℕ → ℕ → Option Pair → Bool
is_stranger_of first count none = false
is_stranger_of first count (some e) = leb count (distance first e.sequence)

abbrev pub pair_answer_of : Option Pair → Answer
pair_answer_of none = absent
pair_answer_of (some e) = pair e.sequence e.value 0 0

-- "some live pair at a position of first..last": the first of them by position from first's, round the capacity
unfoldable pub stranger_in : ℕ → Table → ℕ → ℕ → Answer
stranger_in size t first last =
    let start = position size first in
    let q = first_round (λ (r : ℕ). covers (capacity size) start (range_count_of first last) r && is_stranger_of first (range_count_of first last) (t r)) (capacity size) start in
    cond (ltb q (capacity size)) (pair_answer_of (t q)) absent

-- ---- loss reports (document 02, S-4)

-- which sequences of first..last are lost: those that get does not find
abbrev pub losses_in : ℕ → Table → (first last : ℕ) → List Bool
losses_in size t first last = loss_flags (λ (s : ℕ). finds s (t (position size s))) first (range_count_of first last)

unfoldable pub loss_list_of : ℕ → Table → (first last : ℕ) → List ℕ
loss_list_of size t first last = loss_words first (losses_in size t first last)

-- "The writer answers the number of words"; "11, a list shorter than the words .. to write"
abbrev pub words_answer : (places : ℕ) → List ℕ → Answer
words_answer places words = cond (leb (length words) places) (found (length words)) (refused 11)

-- ---- refusals that are decided before the window is looked at; 0 for none

-- what they may look at besides the arguments
pub record Known : Type 0 where
  pub size : ℕ

abbrev pub known : ℕ → Known
known size = record { size = size }

-- k, unless it is taken; then what comes after it
abbrev pub first : ℕ → Bool → ℕ → ℕ
first k taken rest = cond taken rest k

-- "remove_range, stranger: then 5 for a count above window_size"; "release_retired, clear_bounded: then 8 for a number above 256".
-- "9, a base of 2147483648 or more, after 6". (Insert's 4 is decided by the window.)
abbrev pub limit_refusal_of : Known → Arguments → ℕ
limit_refusal_of k no_argument = 0
limit_refusal_of k (sequence_argument s) = 0
limit_refusal_of k (range_argument a b) = first 5 (leb (range_count_of a b) k.size) 0
limit_refusal_of k (number_argument n) = first 8 (leb n 256) 0
limit_refusal_of k (base_argument s) = first 9 (is_wire_number_of s) 0
-- the reader of loss reports: 5 "as remove_range does"; "11, a list shorter than the .. bytes to write, after 5; 12, a list that the writer
-- could write for no set of losses, after 11". (The writer's 11 is decided by the window.)
limit_refusal_of k (report_argument a b words places) =
    first 5 (leb (range_count_of a b) k.size)
    (first 11 (leb (range_count_of a b) places)
    (first 12 (is_loss_list_of a (range_count_of a b) words)
    0))

-- whether "a sequence, first or last" are wire numbers (document 02, S-3). A base is none of them: the call that sets it "keeps 9"
abbrev pub are_wire_numbers_of : Arguments → Bool
are_wire_numbers_of no_argument = true
are_wire_numbers_of (sequence_argument s) = is_wire_number_of s
are_wire_numbers_of (range_argument a b) = is_wire_number_of a && is_wire_number_of b
are_wire_numbers_of (number_argument n) = true
are_wire_numbers_of (base_argument s) = true
are_wire_numbers_of (report_argument a b words places) = is_wire_number_of a && is_wire_number_of b

-- "10, a sequence, first or last of 2147483648 or more, after 6 and before 4, 5 and 8"
abbrev pub refused_for_of : Known → Arguments → ℕ
refused_for_of k a = first 10 (are_wire_numbers_of a) (limit_refusal_of k a)

-- "a return list of at least 384"
abbrev pub has_places : Option Bool → Bool
has_places none = true
has_places (some listed) = listed

-- "All others: first 6, .. a list shorter than named", then the arguments
abbrev pub argument_refusal : Known → Call → ℕ
argument_refusal k c = first 6 (has_places (role_of c).listed) (refused_for_of k (role_of c).arguments)

-- ---- the calls

-- "State: at each position nothing (as when fresh) or one (sequence, value)."; "the plain table, which keeps the base too"
pub record TableState : Type 0 where
  pub pairs : Table
  pub base : ℕ

-- "a base, 0 at first"
abbrev pub fresh_table : TableState
fresh_table = record { pairs = fresh; base = 0 }

-- other pairs, or another base, and the rest as it is
abbrev pub with_pairs : TableState → Table → TableState
with_pairs t p = record { pairs = p; base = t.base }

abbrev pub with_base : TableState → ℕ → TableState
with_base t b = record { pairs = t.pairs; base = b }

-- what is at a sequence's position; the table with something else there
abbrev pub here : ℕ → TableState → ℕ → Option Pair
here size t s = t.pairs (position size s)

abbrev pub put : ℕ → TableState → ℕ → Option Pair → TableState
put size t s o = with_pairs t (at t.pairs (position size s) o)

-- the table after a call; the call's answer, none if it is not in the table
pub record Outcome : Type 0 where
  pub after : TableState
  pub answer : Option Answer

abbrev pub outcome : TableState → Answer → Outcome
outcome t a = record { after = t; answer = some a }

-- "Not in the table ..: what release_retired answers, the number clear_bounded released, .. iteration order"
abbrev pub untold : TableState → Outcome
untold t = record { after = t; answer = none }

-- "It refuses for arguments as 'Refusal by operation' says, with no step": k is the number, 0 for none
abbrev pub unless_refused : ℕ → TableState → Outcome → Outcome
unless_refused zero t o = o
unless_refused (suc k) t o = outcome t (refused (suc k))

-- what a query is answered; none if that is not in the table
abbrev pub table_answer : ℕ → TableState → Query → Option Answer
table_answer size t (get s) = some (value_if s (here size t s))
-- "successor_after looks from the next position round to its own, last of all"
table_answer size t (successor_after s) = some (search_from (capacity size) t.pairs (position size (s + 1)))
-- "first_from begins at the sequence's own position"
table_answer size t (first_from s) = some (search_from (capacity size) t.pairs (position size s))
table_answer size t (iter cell) = none
table_answer size t (stranger a b) = some (stranger_in size t.pairs a b)
-- "Every call keeps a sound state sound", so a head's check never gives 7
table_answer size t check = some done
table_answer size t (write_losses a b places) = some (words_answer places (loss_list_of size t.pairs a b))
-- "and answers how many are lost"
table_answer size t (read_losses a b words places) = some (found (lost_count (named_flags a (range_count_of a b) words)))

-- what a call does that is not refused for its arguments
unfoldable pub table_does : ℕ → TableState → Call → Outcome
table_does size t (insert s v listed) = outcome (put size t s (put_at s v (here size t s))) (put_answer_of s (here size t s))
table_does size t (exchange s v) = outcome (put size t s (exchange_at s v (here size t s))) (value_if s (here size t s))
table_does size t (remove s) = outcome (put size t s (remove_at s (here size t s))) (value_if s (here size t s))
table_does size t (remove_range a b listed) =
    let cap = capacity size in
    outcome (with_pairs t (empty_range cap (position size a) (range_count_of a b) t.pairs))
    (found (held_in_range cap (position size a) (range_count_of a b) t.pairs))
-- "clear, clear_bounded: empty all"
table_does size t (clear listed) = outcome (with_pairs t fresh) done
table_does size t (clear_bounded n listed) = untold (with_pairs t fresh)
-- "release_retired, iter, stranger, check: no step", nor get, successor_after, first_from
table_does size t (release_retired b listed) = untold t
-- "a base, 0 at first and set by the caller"
table_does size t (set_base s) = outcome (with_base t s) done
-- "Taking the front value removes the base's value and moves the base by one; if it is absent, nothing moves. In the plain table
-- .. this is a remove of the base"
table_does size t take_front =
    let s = t.base in
    let o = here size t s in
    outcome (with_base (put size t s (remove_at s o)) (cond (finds s o) (sequence_at_of s 1) s)) (value_if s o)
table_does size t (ask q) = record { after = t; answer = table_answer size t q }

abbrev pub table_step : ℕ → TableState → Call → Outcome
table_step size t c = unless_refused (argument_refusal (known size) c) t (table_does size t c)
