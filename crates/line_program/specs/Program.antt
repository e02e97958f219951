-- What the line program prints for its input. Document 01, 'The line program'. Definitions only. Assumes nothing.
use Rattle.std.specs.Prelude.{ℕ, zero, suc, cond, List, [], ◌∷◌, ◌++◌, nat_lt}
use Rattle.std.specs.Prelude.{Option, None, Some}
use Rattle.window.specs.Refusals.{limits}
use Rattle.window.specs.New.{fresh}
use Rattle.model.specs.Calls.{Call, done, refused}
use Rattle.model.specs.Window.{Page, Window, window, size_of, pages_of, blocks_of, no_page, page_at, no_block, block_at, live_pairs_of}
use Rattle.model.specs.Steps.{window_step}
use Rattle.model.specs.Contract.{State}
use Rattle.line_text.specs.Lines.{Line, line_of, parts, ended, waiting}
use Rattle.line_output.specs.Output.{line_bytes, list_bytes, unknown_bytes}
use Rattle.line_calls.specs.Calls.{Command, create, listing, make, nothing, command_of}
use Rattle.line_calls.specs.List.{sequences_of, values_of}

-- ---- what is kept between lines

-- the header and the lent lists, read as pages and blocks, those past the window as well; before an accepted n window_size is 0
abbrev pub kept_of : State → Window
kept_of u = window u.header (page_at u.memory) (block_at u.memory)

-- before the first line: no window, and every word and cell is 0
abbrev pub at_start : Window
at_start = window (fresh 0 0 0) (λ (g : ℕ). no_page) (λ (b : ℕ). no_block)

-- the window in it: what lies past the named lengths is no part of the window
unfoldable pub window_in : Window → Window
window_in k =
    window k.header
    (λ (g : ℕ). cond (nat_lt g (pages_of k)) (k.pages g) no_page)
    (λ (b : ℕ). cond (nat_lt b (blocks_of k)) (k.blocks b) no_block)

-- w as the window in it: what lies past its named lengths stays
unfoldable pub with_window : Window → Window → Window
with_window k w =
    window w.header
    (λ (g : ℕ). cond (nat_lt g (pages_of w)) (w.pages g) (k.pages g))
    (λ (b : ℕ). cond (nat_lt b (blocks_of w)) (w.blocks b) (k.blocks b))

-- "It sets every page and block word and the header's other fields to 0 and writes nothing else."
abbrev pub emptied : Page → Page
emptied p = record { kind = 0; occupied = 0; filled = 0; sequences = p.sequences; values = p.values }

abbrev pub with_new : Window → (size n demote_at : ℕ) → Window
with_new k size n demote_at = with_window k (window (fresh size n demote_at) (λ (g : ℕ). emptied (k.pages g)) (λ (b : ℕ). no_block))

-- ---- one line

-- what is kept after it, and the bytes that it prints
pub record Printed : Type 0 where
  pub after : Window
  pub bytes : List ℕ

abbrev pub printed : Window → List ℕ → Printed
printed k bytes = record { after = k; bytes = bytes }

-- "prints `?` alone"
abbrev pub unknown_line : Window → Printed
unknown_line k = printed k unknown_bytes

-- "A refused n prints its refusal and the counts of the window before it, which stays (0 if none)": refusal r, 0 for none, and the new
-- window v otherwise; n is 110
abbrev pub new_or : ℕ → Window → Window → Printed
new_or zero k v = printed v (line_bytes 110 done v.header [])
new_or (suc r) k v = printed k (line_bytes 110 (refused (suc r)) k.header [])

-- "window_size up to 4096"; "a larger window_size .. prints `?` alone"
unfoldable pub new_line : Window → (size n demote_at : ℕ) → Printed
new_line k size n demote_at =
    cond (nat_lt 4096 size) (unknown_line k) (new_or (limits size n demote_at) k (with_new k size n demote_at))

-- "letter, answer, len, retired_held, promotions, demotions, then dropped values, that is the return list", of what the call does
unfoldable pub call_line : Window → ℕ → Call → Printed
call_line k letter c =
    let e = window_step (window_in k) c in
    printed (with_window k e.after) (line_bytes letter e.answer e.after.header e.returned)

-- "(for l, sequence:value pairs)": those that iter gives "from 0 until done"
unfoldable pub list_line : Window → Printed
list_line k = let pairs = live_pairs_of (window_in k) in printed k (list_bytes k.header (sequences_of pairs) (values_of pairs))

-- "a call other than n before an accepted n prints `?` alone"
abbrev pub on_window : Window → Printed → Printed
on_window k p = cond (nat_lt 0 (size_of k)) p (unknown_line k)

abbrev pub command_line : Window → ℕ → Command → Printed
command_line k letter (create size n demote_at) = new_line k size n demote_at
command_line k letter listing = on_window k (list_line k)
command_line k letter (make c) = on_window k (call_line k letter c)
command_line k letter nothing = unknown_line k

abbrev pub said_line : Window → Option Line → Printed
said_line k None = unknown_line k
said_line k (Some l) = command_line k l.letter (command_of l)

-- the bytes of a line, without its line feed
unfoldable pub line_does : Window → List ℕ → Printed
line_does k bytes = said_line k (line_of bytes)

-- ---- the input

-- "One call a line": line after line, each on what the one before left
unfoldable pub lines_do : Window → List (List ℕ) → Printed
lines_do k [] = printed k []
lines_do k (l ∷ ls) =
    let p = line_does k l in
    let q = lines_do p.after ls in
    printed q.after (p.bytes ++ q.bytes)

-- "Lines end in a line feed; the last of the input may lack it."
abbrev pub unless_empty : List ℕ → List (List ℕ)
unless_empty [] = []
unless_empty (b ∷ bs) = (b ∷ bs) ∷ []

unfoldable pub lines_of : List ℕ → List (List ℕ)
lines_of input = ended (parts 10 input) ++ unless_empty (waiting (parts 10 input))

-- standard output, of standard input
unfoldable pub windowlines : List ℕ → List ℕ
windowlines input = (lines_do at_start (lines_of input)).bytes
