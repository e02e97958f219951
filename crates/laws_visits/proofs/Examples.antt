-- Visits by calls, two against one; the queue that they go by, from the cursor round; and a visit to a queue. By computation on the
-- definitions. Assumes nothing.
use mathlib.Core.Path.{◌≡◌, refl}
use mathlib.Core.Bool.{true, false}
use mathlib.Core.Option.{some}
use mathlib.Core.List.{List, [], ◌∷◌, ◌++◌}
use Prim.Native.Nat.{ℕ, ◌-◌}
use Rattle.words.specs.First.{first_from_of, first_round}
use Rattle.words.specs.Word.{bit_at, with_bit, count_below, span, word_below, lowest}
use Rattle.window.specs.Memory.{capacity}
use Rattle.window.specs.New.{fresh as fresh_header}
use Rattle.model.specs.Calls.{clear, release_retired, refused}
use Rattle.model.specs.Table.{Table, pair_of, fresh, at, sum}
use Rattle.model.specs.Window.{Window, fresh_window, cell_of}
use Rattle.model.specs.Pages.{free_cell_of, promoted, nth_set, packed, insert_page, drain_page}
use Rattle.model.specs.Steps.{note_nonempty, split_block, release_page_of, next_retired_of, release_units, revive, retire_all_of, insert_step, clear_step, release_step, effect, window_step, window_does}
use Rattle.model.specs.Runs.{after_new, after, from, inserts_from}
use Rattle.laws_refinement.specs.Seen.{positions_of}
use Rattle.laws_visits.specs.Queue.{values_from, pages_from, queue_of, waiting, visited, visit}

-- the numbers from k up to e, without e
abbrev up_to : ℕ → ℕ → List ℕ
up_to k e = from k (e - k)

-- ---- by calls

-- the values that calls of release_retired return one after another, each with this budget
abbrev visits : Window → List ℕ → List (List ℕ)
visits w [] = []
visits w (b ∷ bs) = let e = window_step w (release_retired b true) in e.returned ∷ visits e.after bs

-- document 01's case: window 512, N 8, sequences 0..511 in, each with its own number as value, clear: 252 are released. Page 3 holds
-- 252..255 still, and pages 4 to 7 all of theirs.
abbrev cleared : Window
cleared = after (after_new 512 8 0) (inserts_from 0 512 ++ clear true ∷ [])

-- page 3 half released
abbrev half : Window
half = after cleared (release_retired 3 true ∷ [])

by-calls :
    -- the one value that can be missing: each of two visits pays for page 3
    (visits cleared (2 ∷ 2 ∷ []) ≡ up_to 252 253 ∷ up_to 253 254 ∷ []) × (visits cleared (4 ∷ []) ≡ up_to 252 255 ∷ [])
    -- none is missing where the first visit has emptied its page, or the one visit ends with an inspection
    × (visits cleared (5 ∷ 3 ∷ []) ≡ up_to 252 256 ∷ up_to 256 258 ∷ []) × (visits cleared (8 ∷ []) ≡ up_to 252 258 ∷ [])
    × (visits cleared (3 ∷ 3 ∷ []) ≡ up_to 252 254 ∷ up_to 254 256 ∷ []) × (visits cleared (6 ∷ []) ≡ up_to 252 256 ∷ [])
unfolding first_from_of first_round bit_at with_bit count_below span word_below lowest capacity fresh_header fresh_window sum cell_of free_cell_of promoted nth_set packed insert_page drain_page note_nonempty split_block release_page_of next_retired_of release_units revive retire_all_of insert_step clear_step release_step window_does
by-calls = (refl, refl, refl, refl, refl, refl)

-- a budget of 0 changes nothing, one of 1 is an inspection
small-budgets :
    (visits cleared (0 ∷ 4 ∷ []) ≡ [] ∷ up_to 252 255 ∷ []) × (visits cleared (4 ∷ 0 ∷ []) ≡ up_to 252 255 ∷ [] ∷ [])
    × (visits cleared (1 ∷ 3 ∷ []) ≡ [] ∷ up_to 252 254 ∷ []) × (visits cleared (3 ∷ 1 ∷ []) ≡ up_to 252 254 ∷ [] ∷ [])
    × (visits cleared (0 ∷ 0 ∷ []) ≡ [] ∷ [] ∷ []) × (visits cleared (1 ∷ 1 ∷ []) ≡ [] ∷ [] ∷ []) × (visits cleared (2 ∷ []) ≡ up_to 252 253 ∷ [])
unfolding first_from_of first_round bit_at with_bit count_below span word_below lowest capacity fresh_header fresh_window sum cell_of free_cell_of promoted nth_set packed insert_page drain_page note_nonempty split_block release_page_of next_retired_of release_units revive retire_all_of insert_step clear_step release_step window_does
small-budgets = (refl, refl, refl, refl, refl, refl, refl)

more-calls :
    -- from a page half released
    (visits half (2 ∷ 4 ∷ []) ≡ up_to 254 255 ∷ up_to 255 257 ∷ []) × (visits half (6 ∷ []) ≡ up_to 254 258 ∷ [])
    -- the largest sum
    × (visits cleared (128 ∷ 128 ∷ []) ≡ up_to 252 377 ∷ up_to 377 502 ∷ []) × (visits cleared (256 ∷ []) ≡ up_to 252 503 ∷ [])
unfolding first_from_of first_round bit_at with_bit count_below span word_below lowest capacity fresh_header fresh_window sum cell_of free_cell_of promoted nth_set packed insert_page drain_page note_nonempty split_block release_page_of next_retired_of release_units revive retire_all_of insert_step clear_step release_step window_does
more-calls = (refl, refl, refl, refl)

-- refused calls, for the return list and for the budget, return nothing and leave the window
refused_calls :
    (window_step cleared (release_retired 4 false) ≡ effect cleared (refused 6) []) × (window_step cleared (release_retired 257 true) ≡ effect cleared (refused 8) [])
refused_calls = (refl, refl)

-- ---- the queue

-- what waits where page 3 is half released
by-queue : waiting 8 (positions_of half) ≡ up_to 254 256 ∷ up_to 256 320 ∷ up_to 320 384 ∷ up_to 384 448 ∷ up_to 448 512 ∷ []
unfolding values_from pages_from first_from_of first_round bit_at with_bit count_below span word_below lowest capacity fresh_header fresh_window sum cell_of free_cell_of promoted nth_set packed insert_page drain_page note_nonempty split_block release_page_of next_retired_of release_units revive retire_all_of insert_step clear_step release_step window_does
by-queue = refl

-- pages 0, 2 and 3 of four hold values
abbrev four : Table
four = at (at (at (at fresh 5 (some (pair_of 5 50))) 130 (some (pair_of 130 20))) 128 (some (pair_of 128 21))) 255 (some (pair_of 255 30))

round : (queue_of 4 four 0 ≡ (50 ∷ []) ∷ (21 ∷ 20 ∷ []) ∷ (30 ∷ []) ∷ []) × (queue_of 4 four 3 ≡ (30 ∷ []) ∷ (50 ∷ []) ∷ (21 ∷ 20 ∷ []) ∷ [])
    × (queue_of 4 four 1 ≡ queue_of 4 four 2)
unfolding values_from pages_from
round = (refl, refl, refl)

-- a unit for each page and each value: with 4 the first page and one value of the next; with 5 all of both, and none for the third
to-queue : let q : List (List ℕ) = (7 ∷ []) ∷ (8 ∷ 9 ∷ []) ∷ (6 ∷ []) ∷ [] in
    (visit 4 q ≡ visited (7 ∷ 8 ∷ []) 4 ((9 ∷ []) ∷ (6 ∷ []) ∷ [])) × (visit 5 q ≡ visited (7 ∷ 8 ∷ 9 ∷ []) 5 ((6 ∷ []) ∷ []))
    × (visit 6 q ≡ visited (7 ∷ 8 ∷ 9 ∷ []) 6 ((6 ∷ []) ∷ [])) × (visit 9 q ≡ visited (7 ∷ 8 ∷ 9 ∷ 6 ∷ []) 7 [])
unfolding visit
to-queue = (refl, refl, refl, refl)
