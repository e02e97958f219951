-- The line program run on lines of input, by computation: document 01's example, and each way in which a line is answered. Assumes nothing.
use Rattle.std.proofs.Common.{◌≡◌, ℕ, cond, eqb, List, [], ◌∷◌, ◌++◌, refl}
use Prim.Native.Char.{code}
use Prim.Native.String.{String, [] as end, ◌∷◌ as ◌then◌}
use Rattle.words.specs.First.{first_from_of, first_round}
use Rattle.words.specs.Word.{bit_at, with_bit, count_below, span, word_below, lowest}
use Rattle.window.specs.Memory.{capacity}
use Rattle.window.specs.Refusals.{limits}
use Rattle.window.specs.New.{fresh}
use Rattle.model.specs.Table.{range_count_of, distance, sum, held_in_range, search_from, stranger_in}
use Rattle.model.specs.Point.{reach}
use Rattle.model.specs.Window.{cell_of, iter_step, pairs_from}
use Rattle.model.specs.Pages.{free_cell_of, promoted, nth_set, packed, insert_page, drain_page}
use Rattle.model.specs.Steps.{note_nonempty, split_block, release_page_of, next_retired_of, release_units, revive, remove_slots_of, retire_in_block, retire_block_of, retire_blocks_of, retire_pages_of, retire_stretch, retire_range_of, retire_all_of, release_pages_of, insert_step, exchange_step, remove_step, range_step, clear_step, clear_bounded_step, release_step, front_step, window_does}
use Rattle.line_text.specs.Fields.{all_digits, number_from, field_of}
use Rattle.line_text.specs.Lines.{parts, ended, waiting, numbers, among, fields_of_letter, line_of}
use Rattle.line_text.specs.Output.{digits_up_to, paired, tabbed}
use Rattle.line_output.specs.Output.{answer_bytes, count_bytes}
use Rattle.line_calls.specs.Calls.{range_call_of, base_call_of, call_of, command_of}
use Rattle.line_program.specs.Program.{Printed, at_start, window_in, with_window, new_line, call_line, list_line, line_does, lines_do, lines_of, windowlines}

-- names every definition that computes
unfoldable everything : ℕ
unfolding reach first_from_of first_round bit_at with_bit count_below span word_below lowest capacity limits fresh range_count_of distance sum held_in_range search_from stranger_in cell_of iter_step pairs_from free_cell_of promoted nth_set packed insert_page drain_page note_nonempty split_block release_page_of next_retired_of release_units revive remove_slots_of retire_in_block retire_block_of retire_blocks_of retire_pages_of retire_stretch retire_range_of retire_all_of release_pages_of insert_step exchange_step remove_step range_step clear_step clear_bounded_step release_step front_step window_does all_digits number_from field_of parts ended waiting numbers among fields_of_letter line_of digits_up_to paired tabbed answer_bytes count_bytes range_call_of base_call_of call_of command_of window_in with_window new_line call_line list_line line_does lines_do lines_of windowlines
everything = 0

-- ---- text

-- the bytes of a text, tabs shown as spaces
abbrev bytes : String → List ℕ
bytes end = []
bytes (c then t) = cond (eqb (code c) 32) 9 (code c) ∷ bytes t

-- each line with its line feed
abbrev lines : List String → List ℕ
lines [] = []
lines (t ∷ ts) = bytes t ++ 10 ∷ lines ts

abbrev Prints : List String → List String → Type 0
Prints input output = windowlines (lines input) ≡ lines output

-- ---- document 01's example

example : Prints
    ("n 64 2 1" ∷ "i 5 50" ∷ "i 69 51" ∷ "i 6 60" ∷ "i 7 70" ∷ "d 6 7" ∷ "c" ∷ "s 5" ∷ [])
    ("n . 0 0 0 0" ∷ "i + 1 0 0 0" ∷ "i !4 1 0 0 0" ∷ "i + 2 0 0 0" ∷ "i + 3 0 1 0" ∷ "d 2 1 0 1 1 60 70" ∷ "c . 0 0 1 1 50" ∷ "s - 0 0 1 1" ∷ [])
unfolding everything
example = refl

-- "the last of the input may lack it"
no-last-line-feed :
    windowlines (lines ("n 64 2 1" ∷ "i 5 50" ∷ "i 69 51" ∷ "i 6 60" ∷ "i 7 70" ∷ "d 6 7" ∷ "c" ∷ []) ++ bytes "s 5")
    ≡ lines ("n . 0 0 0 0" ∷ "i + 1 0 0 0" ∷ "i !4 1 0 0 0" ∷ "i + 2 0 0 0" ∷ "i + 3 0 1 0" ∷ "d 2 1 0 1 1 60 70" ∷ "c . 0 0 1 1 50" ∷ "s - 0 0 1 1" ∷ [])
unfolding everything
no-last-line-feed = refl

empty-input : Prints [] []
unfolding everything
empty-input = refl

-- ---- every letter, and every form of an answer

letters : Prints
    ("n 64 2 1" ∷ "i 5 50" ∷ "i 5 51" ∷ "g 5" ∷ "g 6" ∷ "r 6" ∷ "s 5" ∷ "f 6" ∷ "e 5 52" ∷ "e 6 60" ∷ "i 2147483647 7" ∷ "q 5 5" ∷ "q 68 69"
    ∷ "r 5" ∷ "d 0 63" ∷ "i 4 40" ∷ "b 256" ∷ "v 257" ∷ "i 3 30" ∷ "c" ∷ "l" ∷ [])
    ("n . 0 0 0 0" ∷ "i + 1 0 0 0" ∷ "i =50 1 0 0 0" ∷ "g 51 1 0 0 0" ∷ "g - 1 0 0 0" ∷ "r - 1 0 0 0" ∷ "s 5 1 0 0 0" ∷ "f 5 1 0 0 0"
    ∷ "e 51 1 0 0 0" ∷ "e - 1 0 0 0" ∷ "i + 2 0 0 0" ∷ "q - 2 0 0 0" ∷ "q 5 2 0 0 0"
    ∷ "r 52 1 0 0 0" ∷ "d 1 0 0 0 0 7" ∷ "i + 1 0 0 0" ∷ "b 1 0 0 0 0 40" ∷ "v !8 0 0 0 0" ∷ "i + 1 0 0 0" ∷ "c . 0 0 0 0 30" ∷ "l 0 0 0 0 0" ∷ [])
unfolding everything
letters = refl

-- values that a clear_bounded of 1 keeps retired, and "v gives released:units"
released : Prints
    ("n 128 1 0" ∷ "i 5 50" ∷ "i 70 70" ∷ "i 71 71" ∷ "b 1" ∷ "v 1" ∷ "v 2" ∷ "v 256" ∷ [])
    ("n . 0 0 0 0" ∷ "i + 1 0 0 0" ∷ "i + 2 0 0 0" ∷ "i + 3 0 1 0" ∷ "b 1 0 2 1 0 50" ∷ "v 0:1 0 2 1 0" ∷ "v 1:2 0 1 1 0 70" ∷ "v 1:2 0 0 1 0 71" ∷ [])
unfolding everything
released = refl

-- document 02, S-1: a "sets the base and answers `.`", t "takes the front and answers as r does"; 9 is "a base of 2147483648 or more"
fronts : Prints
    ("n 64 2 1" ∷ "t" ∷ "a 2147483647" ∷ "i 0 7" ∷ "i 2147483647 8" ∷ "t" ∷ "t" ∷ "t" ∷ "a 2147483648" ∷ "a 5" ∷ "i 69 9" ∷ "t" ∷ "t 5" ∷ "a" ∷ [])
    ("n . 0 0 0 0" ∷ "t - 0 0 0 0" ∷ "a . 0 0 0 0" ∷ "i + 1 0 0 0" ∷ "i + 2 0 0 0" ∷ "t 8 1 0 0 0" ∷ "t 7 0 0 0 0" ∷ "t - 0 0 0 0" ∷ "a !9 0 0 0 0"
    ∷ "a . 0 0 0 0" ∷ "i + 1 0 0 0" ∷ "t - 1 0 0 0" ∷ "?" ∷ "?" ∷ [])
unfolding everything
fronts = refl

-- document 02, S-3: a number up to 4294967295 is a field, and 10 is "a sequence, first or last of 2147483648 or more"
wide : Prints
    ("n 64 2 1" ∷ "i 5 50" ∷ "i 2147483653 51" ∷ "g 2147483653" ∷ "e 2147483653 51" ∷ "r 2147483653" ∷ "s 4294967295" ∷ "f 2147483648" ∷ "d 5 2147483653"
    ∷ "q 2147483648 2147483647" ∷ "g 4294967296" ∷ "l" ∷ [])
    ("n . 0 0 0 0" ∷ "i + 1 0 0 0" ∷ "i !10 1 0 0 0" ∷ "g !10 1 0 0 0" ∷ "e !10 1 0 0 0" ∷ "r !10 1 0 0 0" ∷ "s !10 1 0 0 0" ∷ "f !10 1 0 0 0" ∷ "d !10 1 0 0 0"
    ∷ "q !10 1 0 0 0" ∷ "?" ∷ "l 1 1 0 0 0 5:50" ∷ [])
unfolding everything
wide = refl

-- l: pairs by pages, in a page by cells; 9 came before 5, and its cell serves 7
listed : Prints
    ("n 128 8 2" ∷ "l" ∷ "i 70 700" ∷ "i 9 90" ∷ "i 5 50" ∷ "l" ∷ "r 9" ∷ "i 7 71" ∷ "l" ∷ [])
    ("n . 0 0 0 0" ∷ "l 0 0 0 0 0" ∷ "i + 1 0 0 0" ∷ "i + 2 0 0 0" ∷ "i + 3 0 0 0" ∷ "l 3 3 0 0 0 9:90 5:50 70:700"
    ∷ "r 90 2 0 0 0" ∷ "i + 3 0 0 0" ∷ "l 3 3 0 0 0 7:71 5:50 70:700" ∷ [])
unfolding everything
listed = refl

-- ---- n

-- "A refused n prints its refusal and the counts of the window before it, which stays (0 if none)"
refused-before : Prints ("n 0 2 1" ∷ "n 64 64 1" ∷ "n 64 2 3" ∷ "g 5" ∷ []) ("n !1 0 0 0 0" ∷ "n !2 0 0 0 0" ∷ "n !3 0 0 0 0" ∷ "?" ∷ [])
unfolding everything
refused-before = refl

refused-after : Prints
    ("n 64 2 1" ∷ "i 5 50" ∷ "n 64 2 3" ∷ "g 5" ∷ "i 6 60" ∷ "l" ∷ [])
    ("n . 0 0 0 0" ∷ "i + 1 0 0 0" ∷ "n !3 1 0 0 0" ∷ "g 50 1 0 0 0" ∷ "i + 2 0 0 0" ∷ "l 2 2 0 0 0 5:50 6:60" ∷ [])
unfolding everything
refused-after = refl

-- "window_size up to 4096": a larger one leaves the window as well
larger : Prints
    ("n 4097 2 1" ∷ "n 4096 2 1" ∷ "i 4095 7" ∷ "n 4097 2 1" ∷ "g 4095" ∷ [])
    ("?" ∷ "n . 0 0 0 0" ∷ "i + 1 0 0 0" ∷ "?" ∷ "g 7 1 0 0 0" ∷ [])
unfolding everything
larger = refl

-- another n that is taken begins again, with counts of 0
begun-again : Prints
    ("n 128 1 0" ∷ "i 70 70" ∷ "i 71 71" ∷ "n 64 2 1" ∷ "g 70" ∷ "n 128 2 1" ∷ "g 70" ∷ "l" ∷ [])
    ("n . 0 0 0 0" ∷ "i + 1 0 0 0" ∷ "i + 2 0 1 0" ∷ "n . 0 0 0 0" ∷ "g - 0 0 0 0" ∷ "n . 0 0 0 0" ∷ "g - 0 0 0 0" ∷ "l 0 0 0 0 0" ∷ [])
unfolding everything
begun-again = refl

-- ---- lines that print `?` alone

-- before an accepted n: a call, and l
no-window : Prints ("g 5" ∷ "l" ∷ []) ("?" ∷ "?" ∷ [])
unfolding everything
no-window = refl

-- an empty line; another letter, and two; too few fields, and too many; fields not written as numbers are, and one too large; the window
-- stays
no_call : Prints
    ("n 64 2 1" ∷ "i 5 50" ∷ "" ∷ "x 5" ∷ "gg 5" ∷ "g" ∷ "i 6" ∷ "c 1" ∷ "g 5 " ∷ "g  5" ∷ "g 05" ∷ "g +5" ∷ "g 5\r" ∷ "g 4294967296" ∷ "l" ∷ [])
    ("n . 0 0 0 0" ∷ "i + 1 0 0 0" ∷ "?" ∷ "?" ∷ "?" ∷ "?" ∷ "?" ∷ "?" ∷ "?" ∷ "?" ∷ "?" ∷ "?" ∷ "?" ∷ "?" ∷ "l 1 1 0 0 0 5:50" ∷ [])
unfolding everything
no_call = refl

-- more than 64 bytes
long : Prints
    ("n 64 2 1" ∷ "g 1000000000000000000000000000000000000000000000000000000000000000" ∷ "g 5" ∷ [])
    ("n . 0 0 0 0" ∷ "?" ∷ "g - 0 0 0 0" ∷ [])
unfolding everything
long = refl

-- ---- the input in two parts

-- the second line straddles them: what has ended in the first part is answered, and the rest waits for the second
abbrev part_one : List ℕ
part_one = lines ("n 64 2 1" ∷ []) ++ bytes "i 5 5"

abbrev part_two : List ℕ
part_two = lines ("0" ∷ "g 5" ∷ [])

abbrev first : Printed
first = lines_do at_start (ended (parts 10 part_one))

abbrev second : Printed
second = lines_do first.after (lines_of (waiting (parts 10 part_one) ++ part_two))

in-two-parts : (windowlines (part_one ++ part_two) ≡ first.bytes ++ second.bytes)
    × (first.bytes ≡ lines ("n . 0 0 0 0" ∷ [])) × (second.bytes ≡ lines ("i + 1 0 0 0" ∷ "g 50 1 0 0 0" ∷ []))
unfolding everything
in-two-parts = (refl, refl, refl)
