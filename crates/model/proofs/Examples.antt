-- Document 01's listing, its edge cases marked * as one list, its traps, iter's reads, stranger's cases, the acknowledge point, numbers of
-- more than 31 bits, demotions by cause and the order of refusals, by computation on the definitions. Assumes nothing.
use mathlib.Core.Path.{◌≡◌, refl}
use mathlib.Core.Bool.{true, false}
use mathlib.Core.Option.{some}
use mathlib.Core.List.{List, [], ◌∷◌, ◌++◌}
use Prim.Native.Nat.{ℕ, suc, ◌+◌}
use lib.ListN.{length}
use Rattle.words.specs.First.{first_from_of, first_round}
use Rattle.words.specs.Word.{bit_at, with_bit, count_below, span, word_below, lowest}
use Rattle.window.specs.Memory.{Memory, capacity}
use Rattle.window.specs.Refusals.{limits, long_enough_of}
use Rattle.window.specs.New.{fresh as fresh_header, made, refused as not_made, new_result, cleared, short_memory, new_of}
use Rattle.model.specs.Calls.{get, successor_after, first_from, iter, stranger, check, write_losses, read_losses, Call, insert, exchange, remove, ask, remove_range, clear, clear_bounded, release_retired, set_base, take_front, Answer, done, new, absent, found, pair, ended, released, refused}
use Rattle.model.specs.Losses.{flags_from, run_words, words_from, names_after, same}
use Rattle.model.specs.Table.{pair_of, fresh, at, range_count_of, distance, sum, held_in_range, search_from, stranger_in, known, argument_refusal, table_step, table_does}
use Rattle.model.specs.Point.{reach}
use Rattle.model.specs.Positions.{Positions, positions, plain, drain, in_page, sweep, sweep_range, release, step, does}
use Rattle.model.specs.Window.{Window, decode, fresh_window, cell_of, iter_step}
use Rattle.model.specs.Pages.{free_cell_of, promoted, nth_set, packed, insert_page, drain_page}
use Rattle.model.specs.Steps.{set_demotions, with_header, demotions_of, note_nonempty, split_block, release_page_of, next_retired_of, release_units, revive, remove_slots_of, retire_in_block, retire_block_of, retire_blocks_of, retire_pages_of, retire_stretch, retire_range_of, retire_all_of, release_pages_of, insert_step, exchange_step, remove_step, front_step, range_step, clear_step, clear_bounded_step, release_step, window_step, window_does, Effect}
use Rattle.model.specs.Runs.{lent, after_new, after, from, inserts_from}
use Rattle.model.proofs.NewLaws.{new-window, fresh_step}

-- a line of output: answer, len, retired_held, promotions, demotions, dropped values
record Line : Type 0 where
  answer : Answer
  len : ℕ
  held : ℕ
  promotions : ℕ
  demotions : ℕ
  dropped : List ℕ

abbrev line : Answer → ℕ → ℕ → ℕ → ℕ → List ℕ → Line
line a l h p d xs = record { answer = a; len = l; held = h; promotions = p; demotions = d; dropped = xs }

abbrev line_of : Effect → Line
line_of e =
    line e.answer e.after.header.len e.after.header.retired_held e.after.header.promotions (demotions_of e.after.header) e.returned

abbrev lines : Window → List Call → List Line
lines w [] = []
lines w (c ∷ cs) = line_of (window_step w c) ∷ lines (window_step w c).after cs

listing : lines (after_new 64 2 1)
    (insert 5 50 true ∷ insert 69 51 true ∷ insert 6 60 true ∷ insert 7 70 true ∷ remove_range 6 7 true ∷ clear true ∷ ask (successor_after 5) ∷ [])
    ≡ line new 1 0 0 0 [] ∷ line (refused 4) 1 0 0 0 [] ∷ line new 2 0 0 0 [] ∷ line new 3 0 1 0 []
    ∷ line (found 2) 1 0 1 1 (60 ∷ 70 ∷ []) ∷ line done 0 0 1 1 (50 ∷ []) ∷ line absent 0 0 1 1 [] ∷ []
unfolding first_from_of first_round bit_at with_bit count_below span word_below lowest capacity fresh_header fresh_window range_count_of distance sum held_in_range search_from cell_of free_cell_of promoted nth_set packed insert_page drain_page note_nonempty split_block release_page_of next_retired_of release_units revive remove_slots_of retire_stretch retire_range_of retire_all_of insert_step range_step clear_step window_does
listing = refl

-- "At window_size 64, range 2147483647..0 is positions 63 and 0": over positions, and in the plain table
two_pairs : Positions
two_pairs = positions (at (at fresh 0 (some (pair_of 0 10))) 63 (some (pair_of 63 13))) fresh 0 0

range-over-half : ((step 64 two_pairs (remove_range 2147483647 0 true)).returned ≡ 13 ∷ 10 ∷ [])
    × ((table_step 64 (plain two_pairs) (remove_range 2147483647 0 true)).answer ≡ some (found 2))
unfolding two_pairs does table_does capacity first_from_of first_round range_count_of distance sum held_in_range drain in_page sweep sweep_range release
range-over-half = (refl, refl)

-- a memory that is long enough for window_size
abbrev Long : ℕ → Memory → Type 0
Long size m = long_enough_of size (length m.sequences) (length m.values) (length m.pages) (length m.blocks) ≡ true

-- what a new answers that takes these numbers
abbrev Taken : Memory → ℕ → ℕ → ℕ → Type 0
Taken m size n d = Long size m → new_of m size n d ≡ new_result (made (fresh_header size n d)) (cleared size m)

abbrev RefusedBy : ℕ → Memory → ℕ → ℕ → ℕ → Type 0
RefusedBy k m size n d = new_of m size n d ≡ new_result (not_made k) m

taken : (m : Memory) (size n d : ℕ) → limits size n d ≡ 0 → Taken m size n d
unfolding new_of short_memory
taken m size n d e long = rw (e, long)

refused-by : (k : ℕ) (m : Memory) (size n d : ℕ) → limits size n d ≡ suc k → RefusedBy (suc k) m size n d
unfolding new_of
refused-by k m size n d e = rw e

-- the window that an accepted new leaves is the one that the cases below begin with
new-leaves : (size n d : ℕ) → decode (fresh_header size n d) (cleared size (lent size)) ≡ after_new size n d
new-leaves size n d = new-window size n d (lent size)

edge-cases : (m : Memory)
    -- window_size 0 refused 1; 65536 taken; 65537 refused 1
    → RefusedBy 1 m 0 8 2 × Taken m 65536 8 2 × RefusedBy 1 m 65537 8 2
    -- N 63 taken, 64 refused 2
    × Taken m 64 63 0 × RefusedBy 2 m 64 64 0
    -- demote_at N taken, N+1 refused 3
    × Taken m 64 8 8 × RefusedBy 3 m 64 8 9
    -- window_size 65: 5 and 70 both enter, 133 after 5 is refused 4
    × (lines (after_new 65 8 2) (insert 5 1 true ∷ insert 70 2 true ∷ insert 133 3 true ∷ [])
    ≡ line new 1 0 0 0 [] ∷ line new 2 0 0 0 [] ∷ line (refused 4) 2 0 0 0 [] ∷ [])
    -- window_size 64: range 0..63 taken, 0..64 refused 5, 5..4 refused 5
    × (lines (after_new 64 8 2) (insert 5 1 true ∷ remove_range 0 64 true ∷ remove_range 5 4 true ∷ remove_range 0 63 true ∷ [])
    ≡ line new 1 0 0 0 [] ∷ line (refused 5) 1 0 0 0 [] ∷ line (refused 5) 1 0 0 0 [] ∷ line (found 1) 0 0 0 0 (1 ∷ []) ∷ [])
    -- At window_size 64, range 2147483647..0 is positions 63 and 0
    × (lines (after_new 64 8 2) (insert 0 10 true ∷ insert 1 11 true ∷ insert 62 12 true ∷ insert 63 13 true ∷ remove_range 2147483647 0 true ∷ [])
    ≡ line new 1 0 0 0 [] ∷ line new 2 0 0 0 [] ∷ line new 3 0 0 0 [] ∷ line new 4 0 0 0 [] ∷ line (found 2) 2 0 0 0 (13 ∷ 10 ∷ []) ∷ [])
    -- Only 9 live: successor_after(9) is 9
    × (lines (after_new 64 8 2) (insert 9 1 true ∷ ask (successor_after 9) ∷ []) ≡ line new 1 0 0 0 [] ∷ line (found 9) 1 0 0 0 [] ∷ [])
    -- Budget 256 taken, 257 refused 8
    × (lines (after_new 64 8 2) (release_retired 256 true ∷ release_retired 257 true ∷ clear_bounded 257 true ∷ clear_bounded 256 true ∷ [])
    ≡ line (released 0 0) 0 0 0 0 [] ∷ line (refused 8) 0 0 0 0 [] ∷ line (refused 8) 0 0 0 0 [] ∷ line (found 0) 0 0 0 0 [] ∷ [])
    -- Window 512, N 8, sequences 0..511 in, clear: 252 released, 260 retired; release_retired(1): 0 released, 1 unit; then (2): 1 and 2
    × (lines (after (after_new 512 8 0) (inserts_from 0 512)) (clear true ∷ release_retired 1 true ∷ release_retired 2 true ∷ [])
    ≡ line done 0 260 8 0 (from 0 252) ∷ line (released 0 1) 0 260 8 0 [] ∷ line (released 1 2) 0 259 8 0 (252 ∷ []) ∷ [])
    -- Straight after that clear, insert 100 drops nothing; insert 250 drops the values of 252..255
    × (lines (after (after_new 512 8 0) (inserts_from 0 512 ++ clear true ∷ [])) (insert 100 1 true ∷ insert 250 2 true ∷ [])
    ≡ line new 1 260 8 0 [] ∷ line new 2 256 8 0 (from 252 4) ∷ [])
unfolding limits first_from_of first_round bit_at with_bit count_below span word_below lowest capacity fresh_header fresh_window range_count_of distance sum held_in_range search_from cell_of free_cell_of promoted nth_set packed insert_page drain_page note_nonempty split_block release_page_of next_retired_of release_units revive remove_slots_of retire_in_block retire_block_of retire_blocks_of retire_pages_of retire_stretch retire_range_of retire_all_of release_pages_of insert_step range_step clear_step clear_bounded_step release_step window_does
edge-cases m = (refused-by 0 m 0 8 2 refl, taken m 65536 8 2 refl, refused-by 0 m 65537 8 2 refl, taken m 64 63 0 refl, refused-by 1 m 64 64 0 refl, taken m 64 8 8 refl, refused-by 2 m 64 8 9 refl, refl, refl, refl, refl, refl, refl, refl)

-- ---- the traps

traps :
    -- "counting a demotion for an emptied page", and "demoting after each value of a range": a dense page of three is emptied
    (lines (after (after_new 64 2 2) (inserts_from 5 3)) (remove_range 5 7 true ∷ []) ≡ line (found 3) 0 0 1 0 (5 ∷ 6 ∷ 7 ∷ []) ∷ [])
    -- a range that leaves 2 of 4, and a removal that leaves 1 of 2
    × (lines (after (after_new 64 2 2) (inserts_from 5 4)) (remove_range 5 6 true ∷ []) ≡ line (found 2) 2 0 1 1 (5 ∷ 6 ∷ []) ∷ [])
    × (lines (after (after_new 64 1 1) (inserts_from 5 2)) (remove 5 ∷ remove 6 ∷ []) ≡ line (found 5) 1 0 1 1 [] ∷ line (found 6) 0 0 1 1 [] ∷ [])
    -- "testing the page mark but not the block mark": after a clear that releases not all, nothing is found, and iter is done
    × (lines (after (after_new 512 8 0) (inserts_from 0 512)) (clear true ∷ ask (get 500) ∷ ask (first_from 0) ∷ ask (iter 0) ∷ [])
    ≡ line done 0 260 8 0 (from 0 252) ∷ line absent 0 260 8 0 [] ∷ line absent 0 260 8 0 [] ∷ line (ended 1) 0 260 8 0 [] ∷ [])
    -- "taking a sparse page's lowest position for its lowest cell": 9 came first and is in cell 0; its cell serves again
    × (lines (after_new 64 8 2) (insert 9 90 true ∷ insert 5 50 true ∷ ask (iter 0) ∷ remove 9 ∷ insert 7 70 true ∷ ask (iter 0) ∷ [])
    ≡ line new 1 0 0 0 [] ∷ line new 2 0 0 0 [] ∷ line (pair 9 90 1 1) 2 0 0 0 [] ∷ line (found 90) 1 0 0 0 [] ∷ line new 2 0 0 0 [] ∷ line (pair 7 70 1 1) 2 0 0 0 [] ∷ [])
unfolding first_from_of first_round bit_at with_bit count_below span word_below lowest capacity fresh_header fresh_window range_count_of distance sum held_in_range search_from cell_of free_cell_of promoted nth_set packed insert_page drain_page note_nonempty split_block release_page_of next_retired_of release_units revive remove_slots_of retire_in_block retire_block_of retire_blocks_of retire_pages_of retire_stretch retire_range_of retire_all_of release_pages_of insert_step range_step clear_step clear_bounded_step release_step window_does iter_step exchange_step remove_step
traps = (refl, refl, refl, refl, refl)

-- ---- document 02, S-2: the retired words that a step of iter reads

-- nothing live in 65536 positions: every block from the given cell's on; from the capacity none
reads-of-empty : (m : Memory)
    → let w = fresh_window 65536 8 4 m in
    (iter_step w 0 ≡ ended 16) × (iter_step w 4095 ≡ ended 16) × (iter_step w 4096 ≡ ended 15) × (iter_step w 65535 ≡ ended 1) × (iter_step w 65536 ≡ ended 0) × (iter_step w 4294967295 ≡ ended 0)
    -- a window smaller than a block
    × (iter_step (fresh_window 64 8 4 m) 63 ≡ ended 1) × (iter_step (fresh_window 64 8 4 m) 64 ≡ ended 0)
unfolding capacity first_from_of fresh_header fresh_window
reads-of-empty m =
    let e = fresh_step 65536 8 4 m in
    let s = fresh_step 64 8 4 m in
    (e 0, e 4095, e 4096, e 65535, e 65536, e 4294967295, s 63, s 64)

reads :
    -- 4096 is in the second block: the block of the given cell and that of the pair are counted, one alone if they are the same
    (lines (after_new 8192 8 4) (insert 4096 1 true ∷ ask (iter 0) ∷ ask (iter 4095) ∷ ask (iter 4096) ∷ ask (iter 4097) ∷ [])
    ≡ line new 1 0 0 0 [] ∷ line (pair 4096 1 4097 2) 1 0 0 0 [] ∷ line (pair 4096 1 4097 2) 1 0 0 0 [] ∷ line (pair 4096 1 4097 1) 1 0 0 0 [] ∷ line (ended 1) 1 0 0 0 [] ∷ [])
    -- both blocks are under a block mark: read and counted, and no page of them is given out
    × (lines (after_new 8192 8 4) (insert 5 1 true ∷ insert 4096 2 true ∷ clear_bounded 0 true ∷ ask (iter 0) ∷ ask (iter 4096) ∷ ask (iter 8192) ∷ [])
    ≡ line new 1 0 0 0 [] ∷ line new 2 0 0 0 [] ∷ line (found 0) 0 2 0 0 [] ∷ line (ended 2) 0 2 0 0 [] ∷ line (ended 1) 0 2 0 0 [] ∷ line (ended 0) 0 2 0 0 [] ∷ [])
unfolding first_from_of first_round bit_at with_bit count_below span word_below lowest capacity fresh_header fresh_window range_count_of distance sum held_in_range search_from cell_of free_cell_of promoted nth_set packed insert_page drain_page note_nonempty split_block release_page_of next_retired_of release_units revive remove_slots_of retire_in_block retire_block_of retire_blocks_of retire_pages_of retire_stretch retire_range_of retire_all_of release_pages_of insert_step range_step clear_step clear_bounded_step release_step window_does iter_step exchange_step remove_step
reads = (refl, refl)

-- ---- stranger: none in an empty window, none in its own range, an alias; 2147483647 in a range that passes it, and before one

strangers :
    lines (after_new 64 8 2) (ask (stranger 5 5) ∷ insert 5 50 true ∷ ask (stranger 5 5) ∷ ask (stranger 4 6) ∷ ask (stranger 69 69) ∷ remove 5 ∷ insert 2147483647 51 true ∷ ask (stranger 2147483647 0) ∷ ask (stranger 63 63) ∷ ask (stranger 0 62) ∷ [])
    ≡ line absent 0 0 0 0 [] ∷ line new 1 0 0 0 [] ∷ line absent 1 0 0 0 [] ∷ line absent 1 0 0 0 [] ∷ line (pair 5 50 0 0) 1 0 0 0 []
    ∷ line (found 50) 0 0 0 0 [] ∷ line new 1 0 0 0 [] ∷ line absent 1 0 0 0 [] ∷ line (pair 2147483647 51 0 0) 1 0 0 0 [] ∷ line absent 1 0 0 0 [] ∷ []
unfolding first_from_of first_round bit_at with_bit count_below span word_below lowest capacity fresh_header fresh_window range_count_of distance sum held_in_range search_from cell_of free_cell_of promoted nth_set packed insert_page drain_page note_nonempty split_block release_page_of next_retired_of release_units revive remove_slots_of retire_in_block retire_block_of retire_blocks_of retire_pages_of retire_stretch retire_range_of retire_all_of release_pages_of insert_step range_step clear_step clear_bounded_step release_step window_does remove_step stranger_in
strangers = refl

-- ---- the acknowledge point

-- a call's answer, and the base and the point after it
record Acknowledged : Type 0 where
  answer : Answer
  base : ℕ
  point : ℕ

abbrev acknowledges : Answer → (base point : ℕ) → Acknowledged
acknowledges a b p = record { answer = a; base = b; point = p }

abbrev acknowledged : Window → List Call → List Acknowledged
acknowledged w [] = []
acknowledged w (c ∷ cs) =
    let e = window_step w c in
    acknowledges e.answer e.after.header.base e.after.header.point ∷ acknowledged e.after cs

points :
    -- through 2147483647 to 0, a hole filled, one removed before the point, the front taken, and taken where it is absent
    (acknowledged (after_new 64 8 2)
    (set_base 2147483647 ∷ insert 0 1 true ∷ insert 2147483647 2 true ∷ remove 0 ∷ take_front ∷ take_front ∷ [])
    ≡ acknowledges done 2147483647 2147483647 ∷ acknowledges new 2147483647 2147483647 ∷ acknowledges new 2147483647 1 ∷ acknowledges (found 1) 2147483647 0
    ∷ acknowledges (found 2) 0 0 ∷ acknowledges absent 0 0 ∷ [])
    -- a base with the top bit is refused; an alias is not live; a refused insert leaves the point
    × (acknowledged (after_new 64 2 1) (set_base 2147483648 ∷ insert 2147483648 7 true ∷ insert 64 7 true ∷ insert 0 8 true ∷ take_front ∷ [])
    ≡ acknowledges (refused 9) 0 0 ∷ acknowledges (refused 10) 0 0 ∷ acknowledges new 0 0 ∷ acknowledges (refused 4) 0 0 ∷ acknowledges absent 0 0 ∷ [])
    -- window_size 1: all its sequences are live, and the point is live too; the base set back and forth
    × (acknowledged (after_new 1 8 2) (insert 0 1 true ∷ insert 1 2 true ∷ take_front ∷ set_base 0 ∷ set_base 1 ∷ [])
    ≡ acknowledges new 0 1 ∷ acknowledges new 0 1 ∷ acknowledges (found 1) 1 2 ∷ acknowledges done 0 0 ∷ acknowledges done 1 2 ∷ [])
    -- a range, a clear
    × (acknowledged (after (after_new 64 8 2) (inserts_from 0 5)) (remove_range 7 9 true ∷ remove_range 2 3 true ∷ clear true ∷ [])
    ≡ acknowledges (found 0) 0 5 ∷ acknowledges (found 2) 0 2 ∷ acknowledges done 0 0 ∷ [])
unfolding reach first_from_of first_round bit_at with_bit count_below span word_below lowest capacity fresh_header fresh_window range_count_of distance sum held_in_range search_from cell_of free_cell_of promoted nth_set packed insert_page drain_page note_nonempty split_block release_page_of next_retired_of release_units revive remove_slots_of retire_in_block retire_block_of retire_blocks_of retire_pages_of retire_stretch retire_range_of retire_all_of release_pages_of insert_step range_step clear_step clear_bounded_step release_step window_does remove_step front_step
points = (refl, refl, refl, refl)

-- ---- document 02, S-3: a number with the top bit set is refused by every call that takes a sequence, and nothing is altered; a base
-- keeps 9; 2147483647 is taken

wire-numbers : lines (after_new 64 8 2)
    (insert 5 50 true ∷ insert 2147483653 51 true ∷ ask (get 2147483653) ∷ exchange 2147483653 52 ∷ remove 2147483653 ∷ ask (successor_after 2147483653)
    ∷ ask (first_from 2147483653) ∷ remove_range 2147483653 5 true ∷ remove_range 5 2147483653 true ∷ ask (stranger 2147483653 5) ∷ ask (stranger 5 2147483653) ∷ set_base 2147483653
    ∷ ask (iter 2147483653) ∷ insert 2147483647 53 true ∷ ask (get 2147483647) ∷ remove 2147483647 ∷ ask (get 5) ∷ [])
    ≡ line new 1 0 0 0 [] ∷ line (refused 10) 1 0 0 0 [] ∷ line (refused 10) 1 0 0 0 [] ∷ line (refused 10) 1 0 0 0 [] ∷ line (refused 10) 1 0 0 0 [] ∷ line (refused 10) 1 0 0 0 []
    ∷ line (refused 10) 1 0 0 0 [] ∷ line (refused 10) 1 0 0 0 [] ∷ line (refused 10) 1 0 0 0 [] ∷ line (refused 10) 1 0 0 0 [] ∷ line (refused 10) 1 0 0 0 [] ∷ line (refused 9) 1 0 0 0 []
    ∷ line (ended 0) 1 0 0 0 [] ∷ line new 2 0 0 0 [] ∷ line (found 53) 2 0 0 0 [] ∷ line (found 53) 1 0 0 0 [] ∷ line (found 50) 1 0 0 0 [] ∷ []
unfolding first_from_of first_round bit_at with_bit count_below span word_below lowest capacity fresh_header fresh_window range_count_of distance sum held_in_range search_from cell_of free_cell_of promoted nth_set packed insert_page drain_page note_nonempty split_block release_page_of next_retired_of release_units revive remove_slots_of insert_step exchange_step remove_step window_does iter_step
wire-numbers = refl

-- ---- document 02, S-5: demotions by cause

-- what the header counts after a call: of remove and take_front, of remove_range, and their sum
record Counts : Type 0 where
  single : ℕ
  range : ℕ
  both : ℕ

abbrev counts : (single range both : ℕ) → Counts
counts s r b = record { single = s; range = r; both = b }

abbrev counted : Window → List Call → List Counts
counted w [] = []
counted w (c ∷ cs) =
    let v = (window_step w c).after in
    counts v.header.single_demotions v.header.range_demotions (demotions_of v.header) ∷ counted v cs

-- pages 0 and 1 of two values each, dense: 5 and 10, 70 and 100; the counts as given
abbrev two_dense : (single range : ℕ) → Window
two_dense s r =
    let w = after (after_new 128 1 1) (insert 5 1 true ∷ insert 10 2 true ∷ insert 70 3 true ∷ insert 100 4 true ∷ []) in
    with_header w (set_demotions w.header s r)

by-cause :
    -- a remove that leaves one of two, and one that empties its page, which counts nothing; one that finds nothing; an insert, an exchange, a clear
    (counted (two_dense 0 0) (remove 5 ∷ remove 10 ∷ remove 10 ∷ insert 6 5 true ∷ insert 7 6 true ∷ exchange 7 8 ∷ clear true ∷ [])
    ≡ counts 1 0 1 ∷ counts 1 0 1 ∷ counts 1 0 1 ∷ counts 1 0 1 ∷ counts 1 0 1 ∷ counts 1 0 1 ∷ counts 1 0 1 ∷ [])
    -- the front taken, and taken where it is absent
    × (counted (two_dense 0 0) (set_base 5 ∷ take_front ∷ take_front ∷ set_base 10 ∷ take_front ∷ []) ≡ counts 0 0 0 ∷ counts 1 0 1 ∷ counts 1 0 1 ∷ counts 1 0 1 ∷ counts 1 0 1 ∷ [])
    -- a range with two partial pages, each of which it leaves with one value; then one that empties both
    × (counted (two_dense 0 0) (remove_range 6 80 true ∷ remove_range 1 101 true ∷ []) ≡ counts 0 2 2 ∷ counts 0 2 2 ∷ [])
    -- inside one page; a page emptied; a range that is refused
    × (counted (two_dense 0 0) (remove_range 4 6 true ∷ remove_range 70 100 true ∷ remove_range 5 4 true ∷ []) ≡ counts 0 1 1 ∷ counts 0 1 1 ∷ counts 0 1 1 ∷ [])
    -- each modulo 2^64, and their sum too
    × (counted (two_dense 18446744073709551615 18446744073709551615) (remove 5 ∷ remove_range 70 70 true ∷ [])
    ≡ counts 0 18446744073709551615 18446744073709551615 ∷ counts 0 0 0 ∷ [])
    × (counted (two_dense 18446744073709551615 2) (release_retired 256 true ∷ []) ≡ counts 18446744073709551615 2 1 ∷ [])
unfolding reach first_from_of first_round bit_at with_bit count_below span word_below lowest capacity fresh_header fresh_window range_count_of distance sum held_in_range search_from cell_of free_cell_of promoted nth_set packed insert_page drain_page note_nonempty split_block release_page_of next_retired_of release_units revive remove_slots_of retire_in_block retire_block_of retire_blocks_of retire_pages_of retire_stretch retire_range_of retire_all_of release_pages_of insert_step exchange_step range_step clear_step clear_bounded_step release_step window_does remove_step front_step
by-cause = (refl, refl, refl, refl, refl, refl)

-- ---- the order of the refusals for arguments: 6, then 10, then 5, 8 or 9; after 5, of a loss report that is read, 11 and 12

order :
    (argument_refusal (known 64) (insert 2147483648 1 false) ≡ 6) × (argument_refusal (known 64) (insert 2147483648 1 true) ≡ 10) × (argument_refusal (known 64) (insert 2147483647 1 true) ≡ 0)
    × (argument_refusal (known 64) (exchange 2147483648 1) ≡ 10) × (argument_refusal (known 64) (exchange 2147483647 1) ≡ 0) × (argument_refusal (known 64) (remove 2147483648) ≡ 10) × (argument_refusal (known 64) (remove 2147483647) ≡ 0)
    × (argument_refusal (known 64) (remove_range 2147483648 2147483647 false) ≡ 6) × (argument_refusal (known 64) (remove_range 2147483648 2147483647 true) ≡ 10) × (argument_refusal (known 64) (remove_range 0 2147483648 true) ≡ 10)
    × (argument_refusal (known 64) (remove_range 0 64 false) ≡ 6) × (argument_refusal (known 64) (remove_range 0 64 true) ≡ 5) × (argument_refusal (known 64) (remove_range 0 63 true) ≡ 0) × (argument_refusal (known 64) (remove_range 2147483647 0 true) ≡ 0)
    × (argument_refusal (known 64) (clear false) ≡ 6) × (argument_refusal (known 64) (clear true) ≡ 0)
    × (argument_refusal (known 64) (clear_bounded 257 false) ≡ 6) × (argument_refusal (known 64) (clear_bounded 257 true) ≡ 8) × (argument_refusal (known 64) (clear_bounded 256 true) ≡ 0)
    × (argument_refusal (known 64) (release_retired 257 false) ≡ 6) × (argument_refusal (known 64) (release_retired 257 true) ≡ 8) × (argument_refusal (known 64) (release_retired 256 true) ≡ 0)
    × (argument_refusal (known 64) (set_base 2147483648) ≡ 9) × (argument_refusal (known 64) (set_base 2147483647) ≡ 0) × (argument_refusal (known 64) take_front ≡ 0)
    × (argument_refusal (known 64) (ask (get 2147483648)) ≡ 10) × (argument_refusal (known 64) (ask (get 2147483647)) ≡ 0)
    × (argument_refusal (known 64) (ask (successor_after 2147483648)) ≡ 10) × (argument_refusal (known 64) (ask (successor_after 2147483647)) ≡ 0)
    × (argument_refusal (known 64) (ask (first_from 2147483648)) ≡ 10) × (argument_refusal (known 64) (ask (first_from 2147483647)) ≡ 0)
    × (argument_refusal (known 64) (ask (iter 2147483648)) ≡ 0) × (argument_refusal (known 64) (ask check) ≡ 0)
    × (argument_refusal (known 64) (ask (stranger 2147483648 2147483647)) ≡ 10) × (argument_refusal (known 64) (ask (stranger 5 2147483653)) ≡ 10) × (argument_refusal (known 64) (ask (stranger 5 4)) ≡ 5) × (argument_refusal (known 64) (ask (stranger 0 63)) ≡ 0)
    × (argument_refusal (known 64) (ask (write_losses 2147483648 2147483647 0)) ≡ 10) × (argument_refusal (known 64) (ask (write_losses 5 2147483653 0)) ≡ 10) × (argument_refusal (known 64) (ask (write_losses 5 4 0)) ≡ 5) × (argument_refusal (known 64) (ask (write_losses 0 63 0)) ≡ 0)
    × (argument_refusal (known 64) (ask (read_losses 2147483648 2147483647 (1 ∷ 1 ∷ []) 0)) ≡ 10) × (argument_refusal (known 64) (ask (read_losses 5 2147483653 (1 ∷ 1 ∷ []) 0)) ≡ 10) × (argument_refusal (known 64) (ask (read_losses 5 4 (1 ∷ 1 ∷ []) 0)) ≡ 5)
    × (argument_refusal (known 64) (ask (read_losses 5 9 (7 ∷ 7 ∷ []) 4)) ≡ 11) × (argument_refusal (known 64) (ask (read_losses 5 9 (7 ∷ 7 ∷ []) 5)) ≡ 12) × (argument_refusal (known 64) (ask (read_losses 5 9 (7 ∷ 8 ∷ []) 4)) ≡ 11) × (argument_refusal (known 64) (ask (read_losses 5 9 (7 ∷ 8 ∷ []) 5)) ≡ 0)
    × (argument_refusal (known 64) (ask (read_losses 2147483646 1 (4294967294 ∷ 1 ∷ []) 4)) ≡ 0)
unfolding range_count_of distance flags_from run_words words_from names_after same
order = (refl, refl, refl, refl, refl, refl, refl, refl, refl, refl, refl, refl, refl, refl, refl, refl, refl, refl, refl, refl, refl, refl, refl, refl, refl, refl, refl, refl, refl, refl, refl, refl, refl, refl, refl, refl, refl, refl, refl, refl, refl, refl, refl, refl, refl, refl, refl, refl, refl)
