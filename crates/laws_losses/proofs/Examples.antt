-- Loss lists worked out on the definitions: written, read and refused; reports of windows; and reading word by word. Assumes nothing.
use mathlib.Core.Path.{◌≡◌, refl}
use mathlib.Core.Bool.{true, false}
use mathlib.Core.List.{List, [], ◌∷◌, ◌++◌}
use Prim.Native.Nat.{ℕ, ◌+◌, ◌^◌}
use Rattle.words.specs.First.{first_from_of}
use Rattle.words.specs.Word.{bit_at, with_bit, count_below, span}
use Rattle.window.specs.Memory.{capacity}
use Rattle.window.specs.New.{fresh as fresh_header}
use Rattle.model.specs.Calls.{insert, clear_bounded, write_losses, ask, Answer, found, refused}
use Rattle.model.specs.Table.{range_count_of, distance, loss_list_of}
use Rattle.model.specs.Losses.{flags_from, run_words, words_from, loss_words, most_words_of, names_after, named_flags, same, is_loss_list_of, loss_bytes, lost_count, over}
use Rattle.model.specs.Point.{reach}
use Rattle.model.specs.Window.{Window, size_of, live_at, fresh_window, cell_of}
use Rattle.model.specs.Pages.{free_cell_of, promoted, insert_page}
use Rattle.model.specs.Steps.{note_nonempty, revive, retire_all_of, release_pages_of, insert_step, clear_bounded_step, window_does, window_step}
use Rattle.model.specs.Runs.{after_new, after}
use Rattle.laws_losses.specs.Marks.{falses, trues}

-- "Nothing live: 5..7", "5..6", one sequence, 2147483647..1 and 2147483647..0; nothing lost; two runs with one live between; every other
written :
    (loss_words 5 (trues 3) ≡ 2147483653 ∷ 7 ∷ [])
    × (loss_words 5 (trues 2) ≡ 5 ∷ 6 ∷ [])
    × (loss_words 5 (trues 1) ≡ 5 ∷ [])
    × (loss_words 2147483647 (trues 3) ≡ 4294967295 ∷ 1 ∷ [])
    × (loss_words 2147483647 (trues 2) ≡ 2147483647 ∷ 0 ∷ [])
    × (loss_words 5 (falses 3) ≡ [])
    × (loss_words 9 (trues 3 ++ (false ∷ trues 2)) ≡ (2 ^ 31 + 9) ∷ 11 ∷ 13 ∷ 14 ∷ [])
    × (loss_words 9 (false ∷ true ∷ false ∷ true ∷ []) ≡ 10 ∷ 12 ∷ [])
unfolding words_from run_words
written = (refl, refl, refl, refl, refl, refl, refl, refl)

-- what is read of these
read :
    (named_flags 5 3 (2147483653 ∷ 7 ∷ []) ≡ trues 3)
    × (named_flags 5 2 (5 ∷ 6 ∷ []) ≡ trues 2)
    × (named_flags 2147483647 3 (4294967295 ∷ 1 ∷ []) ≡ trues 3)
    × (named_flags 5 3 [] ≡ falses 3)
    × (named_flags 9 6 ((2 ^ 31 + 9) ∷ 11 ∷ 13 ∷ 14 ∷ []) ≡ trues 3 ++ (false ∷ trues 2))
    × (loss_bytes (true ∷ false ∷ true ∷ []) ≡ 1 ∷ 0 ∷ 1 ∷ [])
    × (lost_count (true ∷ false ∷ true ∷ []) ≡ 2)
    × (over (1 ∷ 0 ∷ 1 ∷ []) (9 ∷ 8 ∷ 7 ∷ 6 ∷ []) ≡ 1 ∷ 0 ∷ 1 ∷ 6 ∷ [])
unfolding flags_from names_after distance lost_count
read = (refl, refl, refl, refl, refl, refl, refl, refl)

-- lists of some set of losses, and of none: three single words in a row, a range of two and of one, runs that touch in each way,
-- descending, doubled, a first word without a second, a second word with its top bit, outside on either side, a word too many
taken :
    (is_loss_list_of 5 9 [] ≡ true)
    × (is_loss_list_of 5 9 (6 ∷ 7 ∷ []) ≡ true)
    × (is_loss_list_of 5 9 (6 ∷ 7 ∷ 9 ∷ (2 ^ 31 + 11) ∷ 13 ∷ []) ≡ true)
    × (is_loss_list_of 5 9 (6 ∷ 7 ∷ 8 ∷ []) ≡ false)
    × (is_loss_list_of 5 9 ((2 ^ 31 + 6) ∷ 7 ∷ []) ≡ false)
    × (is_loss_list_of 5 9 ((2 ^ 31 + 6) ∷ 6 ∷ []) ≡ false)
    × (is_loss_list_of 5 9 ((2 ^ 31 + 6) ∷ 8 ∷ 9 ∷ []) ≡ false)
    × (is_loss_list_of 5 9 ((2 ^ 31 + 6) ∷ 8 ∷ (2 ^ 31 + 9) ∷ 12 ∷ []) ≡ false)
    × (is_loss_list_of 5 9 (6 ∷ (2 ^ 31 + 7) ∷ 9 ∷ []) ≡ false)
    × (is_loss_list_of 5 9 (8 ∷ 6 ∷ []) ≡ false)
    × (is_loss_list_of 5 9 (6 ∷ 6 ∷ []) ≡ false)
    × (is_loss_list_of 5 9 ((2 ^ 31 + 6) ∷ []) ≡ false)
    × (is_loss_list_of 5 9 ((2 ^ 31 + 6) ∷ (2 ^ 31 + 9) ∷ []) ≡ false)
    × (is_loss_list_of 5 9 (14 ∷ []) ≡ false)
    × (is_loss_list_of 5 9 (4 ∷ []) ≡ false)
    × (is_loss_list_of 5 9 ((2 ^ 31 + 11) ∷ 14 ∷ []) ≡ false)
    × (is_loss_list_of 5 1 (5 ∷ 5 ∷ []) ≡ false)
unfolding flags_from words_from run_words names_after distance same
taken = (refl, refl, refl, refl, refl, refl, refl, refl, refl, refl, refl, refl, refl, refl, refl, refl, refl)

-- the most words: runs of two with one live between
most : (most_words_of 8 ≡ 6) × (loss_words 0 (true ∷ true ∷ false ∷ true ∷ true ∷ false ∷ true ∷ true ∷ []) ≡ 0 ∷ 1 ∷ 3 ∷ 4 ∷ 6 ∷ 7 ∷ [])
unfolding words_from run_words
most = (refl, refl)

-- ---- reports of windows

abbrev report : Window → ℕ → ℕ → List ℕ
report w first last = loss_list_of (size_of w) (live_at w) first last

-- the answer of write_losses with so many places
abbrev answer : Window → ℕ → ℕ → ℕ → Answer
answer w first last places = (window_step w (ask (write_losses first last places))).answer

-- 6 is live; 5 stands at the position of 133; 64 to 66 are retired
abbrev one-live : Window
one-live = after (after_new 64 2 1) (insert 6 60 true ∷ [])

abbrev alias : Window
alias = after (after_new 65 2 1) (insert 5 50 true ∷ [])

abbrev retired : Window
retired = after (after_new 128 2 1) (insert 64 1 true ∷ insert 65 2 true ∷ insert 66 3 true ∷ clear_bounded 0 true ∷ [])

reports :
    (report one-live 5 9 ≡ 5 ∷ (2 ^ 31 + 7) ∷ 9 ∷ [])
    × (answer one-live 5 9 3 ≡ found 3) × (answer one-live 5 9 2 ≡ refused 11) × (answer one-live 6 6 0 ≡ found 0)
    × (answer one-live 2147483648 6 0 ≡ refused 10) × (answer one-live 6 5 0 ≡ refused 5)
    × (report one-live 2147483646 0 ≡ 4294967294 ∷ 0 ∷ [])
    × (report alias 133 134 ≡ 133 ∷ 134 ∷ []) × (report alias 5 6 ≡ 6 ∷ [])
    × (report retired 63 67 ≡ (2 ^ 31 + 63) ∷ 67 ∷ [])
unfolding first_from_of bit_at with_bit count_below span capacity fresh_header fresh_window range_count_of distance reach cell_of free_cell_of promoted insert_page note_nonempty revive retire_all_of release_pages_of insert_step clear_bounded_step window_does loss_list_of flags_from words_from run_words
reports = (refl, refl, refl, refl, refl, refl, refl, refl, refl, refl)
