-- What each call does to the window. Document 01, 'Masks and search', 'Range removal', 'Release', 'Beside the port'; document 02, S-1.
-- On a sound window; the refusals for arguments come first. Definitions only. Assumes nothing.
use Rattle.std.specs.Prelude.{Bool, true, false, cond, not, ◌&&◌, ◌||◌, List, [], ◌++◌, ℕ, zero, suc, ◌+◌, ◌-◌, ◌*◌, ◌/◌, ◌%◌, ◌^◌, leb, ltb, eqb, length}
use Rattle.std.proofs.Math.Option.{Option, none, some}
use Rattle.words.specs.First.{first_round}
use Rattle.words.specs.Word.{is_set, with_bit, set_bit, clear_bit, word_of, span}
use Rattle.window.specs.declared.AdaptiveReceiverPacketWindow.{AdaptiveReceiverPacketWindow}
use Rattle.window.specs.declared.Cause.{Cause}
use Rattle.window.specs.declared.Cause.TheVariants.{Single, Range}
use Rattle.window.specs.Memory.{position}
use Rattle.model.specs.Calls.{Query, get, successor_after, first_from, iter, stranger, check, write_losses, read_losses, Call, insert, exchange, remove, remove_range, clear, clear_bounded, release_retired, set_base, take_front, ask, Answer, done, new, replaced, absent, found, pair, ended, released, refused}
use Rattle.model.specs.Losses.{named_flags, lost_count}
use Rattle.model.specs.Table.{Pair, value_if, finds, sequence_at_of, range_count_of, within, sum, held_in_range, search_from, stranger_in, loss_list_of, words_answer, Known, known, argument_refusal}
use Rattle.model.specs.Demand3.{one}
use Rattle.model.specs.Window.{Page, Block, Window, window, upd, size_of, capacity_of, pages_of, blocks_of, cell_of, is_retired, live_at, point_for, iter_step}
use Rattle.model.specs.Pages.{values_in_of, holds_value, set_value, take_cell_of, unless_emptied_of, demotes, after_removal, insert_page, drain_page}

-- ---- changes of the header, one field each

abbrev pub header_with : AdaptiveReceiverPacketWindow → (len retired_values_held cursor summary retired_blocks promotions single range : ℕ) → AdaptiveReceiverPacketWindow
header_with h len retired_values_held cursor summary retired_blocks promotions single range = record {
  window_size = h.window_size;
  n = h.n;
  demote_at = h.demote_at;
  len = len;
  retired_held = retired_values_held;
  release_cursor = cursor;
  base = h.base;
  point = h.point;
  nonempty_summary = summary;
  retired_blocks = retired_blocks;
  promotions = promotions;
  single_demotions = single;
  range_demotions = range;
}

abbrev pub set_len : AdaptiveReceiverPacketWindow → ℕ → AdaptiveReceiverPacketWindow
set_len h x = header_with h x h.retired_held h.release_cursor h.nonempty_summary h.retired_blocks h.promotions h.single_demotions h.range_demotions

abbrev pub set_held : AdaptiveReceiverPacketWindow → ℕ → AdaptiveReceiverPacketWindow
set_held h x = header_with h h.len x h.release_cursor h.nonempty_summary h.retired_blocks h.promotions h.single_demotions h.range_demotions

abbrev pub set_cursor : AdaptiveReceiverPacketWindow → ℕ → AdaptiveReceiverPacketWindow
set_cursor h x = header_with h h.len h.retired_held x h.nonempty_summary h.retired_blocks h.promotions h.single_demotions h.range_demotions

abbrev pub set_summary : AdaptiveReceiverPacketWindow → ℕ → AdaptiveReceiverPacketWindow
set_summary h x = header_with h h.len h.retired_held h.release_cursor x h.retired_blocks h.promotions h.single_demotions h.range_demotions

abbrev pub set_retired_blocks : AdaptiveReceiverPacketWindow → ℕ → AdaptiveReceiverPacketWindow
set_retired_blocks h x = header_with h h.len h.retired_held h.release_cursor h.nonempty_summary x h.promotions h.single_demotions h.range_demotions

abbrev pub set_promotions : AdaptiveReceiverPacketWindow → ℕ → AdaptiveReceiverPacketWindow
set_promotions h x = header_with h h.len h.retired_held h.release_cursor h.nonempty_summary h.retired_blocks x h.single_demotions h.range_demotions

abbrev pub set_demotions : AdaptiveReceiverPacketWindow → (single range : ℕ) → AdaptiveReceiverPacketWindow
set_demotions h single range = header_with h h.len h.retired_held h.release_cursor h.nonempty_summary h.retired_blocks h.promotions single range

-- what retiring changes of a header
abbrev pub retiring_header : AdaptiveReceiverPacketWindow → (len retired_values_held retired_blocks : ℕ) → AdaptiveReceiverPacketWindow
retiring_header h len retired_values_held retired_blocks =
    header_with h len retired_values_held h.release_cursor h.nonempty_summary retired_blocks h.promotions h.single_demotions h.range_demotions

-- base and point, which the calls of document 01 leave as they are
abbrev pub header_from : AdaptiveReceiverPacketWindow → (base point : ℕ) → AdaptiveReceiverPacketWindow
header_from h base point = record {
  window_size = h.window_size;
  n = h.n;
  demote_at = h.demote_at;
  len = h.len;
  retired_held = h.retired_held;
  release_cursor = h.release_cursor;
  base = base;
  point = point;
  nonempty_summary = h.nonempty_summary;
  retired_blocks = h.retired_blocks;
  promotions = h.promotions;
  single_demotions = h.single_demotions;
  range_demotions = h.range_demotions;
}

abbrev pub set_base_of : AdaptiveReceiverPacketWindow → ℕ → AdaptiveReceiverPacketWindow
set_base_of h x = header_from h x h.point

abbrev pub set_point : AdaptiveReceiverPacketWindow → ℕ → AdaptiveReceiverPacketWindow
set_point h x = header_from h h.base x

-- ---- changes of a block, one word each

abbrev pub block : (nonempty retired live : ℕ) → Block
block nonempty retired live = record { nonempty = nonempty; retired = retired; live = live }

abbrev pub set_nonempty : Block → ℕ → Block
set_nonempty x word = block word x.retired x.live

abbrev pub set_retired : Block → ℕ → Block
set_retired x word = block x.nonempty word x.live

abbrev pub set_live : Block → ℕ → Block
set_live x count = block x.nonempty x.retired count

-- ---- changes of the window

abbrev pub with_header : Window → AdaptiveReceiverPacketWindow → Window
with_header w h = window h w.pages w.blocks

abbrev pub with_block : Window → ℕ → Block → Window
with_block w b x = window w.header w.pages (upd w.blocks b x)

abbrev pub with_page : Window → ℕ → Page → Window
with_page w g p = window w.header (upd w.pages g p) w.blocks

-- the bits for page g in its block's nonempty word, and for its block in the summary, are those of what the page now holds
unfoldable pub note_nonempty : Window → ℕ → Window
note_nonempty w g =
    let b = g / 64 in
    let word = with_bit (w.blocks b).nonempty (g % 64) (one (holds_value (w.pages g))) in
    window (set_summary w.header (with_bit w.header.nonempty_summary b (one (not (eqb word 0)))))
    w.pages (upd w.blocks b (set_nonempty (w.blocks b) word))

-- page g replaced, and noted
abbrev pub put_page : Window → ℕ → Page → Window
put_page w g p = note_nonempty (with_page w g p) g

-- k live values more, or fewer, in block b
abbrev pub add_live_of : Window → ℕ → ℕ → Window
add_live_of w b k =
    with_block (with_header w (set_len w.header (w.header.len + k))) b (set_live (w.blocks b) ((w.blocks b).live + k))

abbrev pub sub_live_of : Window → ℕ → ℕ → Window
sub_live_of w b k =
    with_block (with_header w (set_len w.header (w.header.len - k))) b (set_live (w.blocks b) ((w.blocks b).live - k))

-- "Promotions and demotions wrap at 2^64"
abbrev pub count_promotion_of : Window → Bool → Window
count_promotion_of w happened = with_header w (set_promotions w.header ((w.header.promotions + one happened) % 2 ^ 64))

-- document 02, S-5: "In place of demotions the header holds two counts, of those in remove and taking the front and of those in
-- remove_range, each modulo 2^64": the count of the cause is raised, the other stays
abbrev pub is_cause : Cause → Cause → Bool
is_cause Single Single = true
is_cause Single Range = false
is_cause Range Single = false
is_cause Range Range = true

abbrev pub raised_if : Bool → ℕ → Bool → ℕ
raised_if own count happened = cond own ((count + one happened) % 2 ^ 64) count

abbrev pub count_demotion_of : Cause → Window → Bool → Window
count_demotion_of c w happened =
    let h = w.header in
    with_header w (set_demotions h (raised_if (is_cause Single c) h.single_demotions happened) (raised_if (is_cause Range c) h.range_demotions happened))

-- "their sum, modulo 2^64, is the count compared with the source and printed"
abbrev pub demotions_of : AdaptiveReceiverPacketWindow → ℕ
demotions_of h = (h.single_demotions + h.range_demotions) % 2 ^ 64

-- the retired word of block b
abbrev pub set_marks : Window → ℕ → ℕ → Window
set_marks w b word = with_block w b (set_retired (w.blocks b) word)

-- "When none is held, all block marks drop"
abbrev pub drop_block_marks : Window → Window
drop_block_marks w = cond (eqb w.header.retired_held 0) (with_header w (set_retired_blocks w.header 0)) w

-- "its block mark turns into marks on all its nonempty pages"
unfoldable pub split_block : Window → ℕ → Window
split_block w b =
    cond (is_set w.header.retired_blocks b)
    (set_marks (with_header w (set_retired_blocks w.header (clear_bit w.header.retired_blocks b))) b (w.blocks b).nonempty)
    w

-- ---- release

-- a window, and the values that a call returns
pub record Returned : Type 0 where
  pub after : Window
  pub out : List ℕ

abbrev pub returned_by : Window → List ℕ → Returned
returned_by w l = record { after = w; out = l }

abbrev pub all_positions : ℕ → Bool
all_positions j = true

-- "values by rising position": the first k values of a retired page; an emptied page loses its mark
unfoldable pub release_page_of : Window → ℕ → ℕ → Returned
release_page_of w g k =
    let d = drain_page 64 0 all_positions k (w.pages g) in
    let v = put_page (with_header w (set_held w.header (w.header.retired_held - length d.out))) g (unless_emptied_of d.page) in
    returned_by
    (cond (holds_value d.page) v (drop_block_marks (set_marks v (g / 64) (clear_bit (v.blocks (g / 64)).retired (g % 64)))))
    d.out

-- "Only retired pages that hold a value are inspected. .. Pages come from release_cursor upwards, then round": the next; pages_of w if none
unfoldable pub next_retired_of : Window → ℕ
next_retired_of w = first_round (λ (g : ℕ). is_retired w g && holds_value (w.pages g)) (pages_of w) w.header.release_cursor

-- "An emptied page moves the cursor to the next page, another keeps it"
abbrev pub move_cursor : Window → ℕ → Window
move_cursor w g = with_header w (set_cursor w.header (cond (holds_value (w.pages g)) g ((g + 1) % pages_of w)))

pub record Release : Type 0 where
  pub after : Window
  pub out : List ℕ
  pub units : ℕ

abbrev pub release_of : Window → List ℕ → ℕ → Release
release_of w out units = record { after = w; out = out; units = units }

-- "Each page inspected and each value released costs one unit"; fuel bounds the pages inspected, and the budget is enough of it
unfoldable pub release_units : ℕ → ℕ → Window → Release
release_units zero b w = release_of (drop_block_marks w) [] 0
release_units (suc f) zero w = release_of (drop_block_marks w) [] 0
release_units (suc f) (suc b) w = elim (ltb (next_retired_of w) (pages_of w)) [
  | true ↦
      let g = next_retired_of w in
      let p = release_page_of w g b in
      let r = release_units f (b - length p.out) (move_cursor p.after g) in
      release_of r.after (p.out ++ r.out) (1 + length p.out + r.units)
  | false ↦ release_of (drop_block_marks w) [] 0
]

abbrev pub release : ℕ → Window → Release
release b w = release_units b b w

-- ---- revival

-- "Insert into a retired page first releases that page whole, the cursor kept"; "Before .. one is revived, empty or not, its block
-- mark turns into marks on all its nonempty pages"
unfoldable pub revive : Window → ℕ → Returned
revive w g =
    let v = split_block w (g / 64) in
    cond (is_retired w g) (cond (is_retired v g) (release_page_of v g 64) (returned_by v [])) (returned_by w [])

-- ---- retiring

-- the values at the positions of page g where P holds, taken out now; "A page already retired is skipped"; demotion is tested once
unfoldable pub remove_slots_of : Window → ℕ → (ℕ → Bool) → Returned
remove_slots_of w g P =
    let d = drain_page 64 0 P 64 (w.pages g) in
    let demote_at = w.header.demote_at in
    cond (is_retired w g || not (holds_value (w.pages g))) (returned_by w [])
    (returned_by
    (count_demotion_of Range (put_page (sub_live_of w (g / 64) (length d.out)) g (after_removal demote_at d.page)) (demotes demote_at d.page))
    d.out)

-- pages of block b from `from` up to `to`
abbrev pub pages_in : ℕ → ℕ → ℕ → ℕ → Bool
pages_in from to b i = within from to (64 * b + i)

-- "its whole nonempty pages get marks", in block b: those not marked yet
abbrev pub new_marks : Window → ℕ → ℕ → ℕ → ℕ → Bool
new_marks w from to b i = pages_in from to b i && (is_set (w.blocks b).nonempty i && not (is_set (w.blocks b).retired i))

-- k values of block b that were live are now retired
abbrev pub retire_live : Window → ℕ → ℕ → Window
retire_live w b k = with_header (sub_live_of w b k) (set_held (set_len w.header (w.header.len - k)) (w.header.retired_held + k))

-- "Before whole pages of a block are marked .. its block mark turns into marks on all its nonempty pages"
unfoldable pub retire_in_block : Window → ℕ → ℕ → ℕ → Window
retire_in_block w from to b =
    let v = split_block w b in
    let k = sum 64 (λ (i : ℕ). cond (new_marks v from to b i) (values_in_of (v.pages (64 * b + i))) 0) in
    retire_live (set_marks v b (word_of (λ (i : ℕ). is_set (v.blocks b).retired i || new_marks v from to b i))) b k

-- "a block covered entirely gets one bit instead, empty or not"
unfoldable pub retire_block_of : Window → ℕ → Window
retire_block_of w b = retire_live (with_header w (set_retired_blocks w.header (set_bit w.header.retired_blocks b))) b (w.blocks b).live

abbrev pub covers_block : ℕ → ℕ → ℕ → Bool
covers_block from to b = leb from (64 * b) && leb (64 * b + 64) to

-- the whole pages from `from` up to `to`, in the n blocks from b upwards; `several`: they reach over several blocks
unfoldable pub retire_blocks_of : ℕ → ℕ → Window → ℕ → ℕ → Bool → Window
retire_blocks_of zero b w from to several = w
retire_blocks_of (suc n) b w from to several =
    retire_blocks_of n (suc b)
    (cond (ltb from (64 * b + 64) && ltb (64 * b) to)
    (cond (several && covers_block from to b) (retire_block_of w b) (retire_in_block w from to b))
    w)
    from to several

unfoldable pub retire_pages_of : Window → ℕ → ℕ → Window
retire_pages_of w from to =
    cond (ltb from to) (retire_blocks_of (blocks_of w) 0 w from to (not (eqb (from / 64) ((to - 1) / 64)))) w

-- "A stretch inside one page is emptied value by value; otherwise its first partial page, then its last, then its whole nonempty
-- pages get marks": positions from a up to e, a below e
unfoldable pub retire_stretch : Window → ℕ → ℕ → Returned
retire_stretch w a e =
    let inside = remove_slots_of w (a / 64) (λ (j : ℕ). within a e (a / 64 * 64 + j)) in
    let head = cond (eqb (a % 64) 0) (returned_by w []) (remove_slots_of w (a / 64) (λ (j : ℕ). leb (a % 64) j)) in
    let tail = cond (eqb (e % 64) 0) (returned_by head.after []) (remove_slots_of head.after (e / 64) (λ (j : ℕ). ltb j (e % 64))) in
    cond (eqb (a / 64) ((e - 1) / 64)) inside
    (returned_by (retire_pages_of tail.after ((a + 63) / 64) (e / 64)) (head.out ++ tail.out))

-- "The positions are count in a row from first's, wrapping at capacity, first the stretch up to capacity, then that from 0"
unfoldable pub retire_range_of : Window → ℕ → ℕ → Returned
retire_range_of w start count =
    let first = retire_stretch w start (capacity_of w) in
    let second = retire_stretch first.after 0 (start + count - capacity_of w) in
    cond (leb (start + count) (capacity_of w)) (retire_stretch w start (start + count))
    (returned_by second.after (first.out ++ second.out))

-- "Retiring everything sets every block's bit."
unfoldable pub retire_all_of : Window → Window
retire_all_of w =
    drop_block_marks
    (window
    (set_retired_blocks (set_held (set_len w.header 0) (w.header.retired_held + w.header.len)) (span 0 (blocks_of w)))
    w.pages
    (λ (b : ℕ). cond (ltb b (blocks_of w)) (set_live (w.blocks b) 0) (w.blocks b)))

-- "clear_bounded .. releases from page 0, at most its number of values, inspections free, the cursor kept": of n pages from g upwards
unfoldable pub release_pages_of : ℕ → ℕ → ℕ → Window → Returned
release_pages_of zero g k w = returned_by w []
release_pages_of (suc n) g zero w = returned_by w []
release_pages_of (suc n) g (suc k) w =
    let p = cond (holds_value (w.pages g)) (release_page_of w g (suc k)) (returned_by w []) in
    let r = release_pages_of n (suc g) (suc k - length p.out) p.after in
    returned_by r.after (p.out ++ r.out)

-- ---- the calls

-- the window after a call, its answer, and the values in its return list
pub record Effect : Type 0 where
  pub after : Window
  pub answer : Answer
  pub returned : List ℕ

abbrev pub effect : Window → Answer → List ℕ → Effect
effect w a l = record { after = w; answer = a; returned = l }

-- a refusal k for arguments, with no step; 0 is none
abbrev pub unless_refused : ℕ → Window → Effect → Effect
unless_refused zero w e = e
unless_refused (suc k) w e = effect w (refused (suc k)) []

-- the page of a sequence, and what stands at its position
abbrev pub page_of : Window → ℕ → ℕ
page_of w s = position (size_of w) s / 64

abbrev pub live_here : Window → ℕ → Option Pair
live_here w s = live_at w (position (size_of w) s)

-- the answer `new` counts one live value more
abbrev pub is_new : Answer → Bool
is_new done = false
is_new new = true
is_new (replaced v) = false
is_new absent = false
is_new (found n) = false
is_new (pair s v next reads) = false
is_new (ended reads) = false
is_new (released values units) = false
is_new (refused k) = false

unfoldable pub insert_step : Window → ℕ → ℕ → Effect
insert_step w s v =
    let g = page_of w s in
    let r = revive w g in
    let i = insert_page w.header.n (r.after.pages g) s v in
    effect
    (cond (is_new i.answer)
    (add_live_of (count_promotion_of (put_page r.after g i.page) i.promotes) (g / 64) 1)
    (with_page r.after g i.page))
    i.answer r.out

unfoldable pub exchange_step : Window → ℕ → ℕ → Effect
exchange_step w s v =
    let g = page_of w s in
    effect (cond (finds s (live_here w s)) (with_page w g (set_value (w.pages g) (cell_of (w.pages g) (s % 64)) v)) w) (value_if s (live_here w s)) []

unfoldable pub remove_step : Window → ℕ → Effect
remove_step w s =
    let g = page_of w s in
    let p = take_cell_of (w.pages g) (cell_of (w.pages g) (s % 64)) in
    let demote_at = w.header.demote_at in
    effect
    (cond (finds s (live_here w s))
    (count_demotion_of Single (put_page (sub_live_of w (g / 64) 1) g (after_removal demote_at p)) (demotes demote_at p))
    w)
    (value_if s (live_here w s)) []

-- "If nothing was retired before, release_cursor becomes the page of first. Then one release with 256 runs. The answer counts live
-- values only."
unfoldable pub range_step : Window → ℕ → ℕ → Effect
range_step w start count =
    let t = retire_range_of w start count in
    let v = cond (eqb w.header.retired_held 0) (with_header t.after (set_cursor t.after.header (start / 64))) t.after in
    let r = release 256 v in
    effect r.after (found (held_in_range (capacity_of w) start count (live_at w))) (t.out ++ r.out)

-- "clear retires everything and releases with 256 from the cursor as it is."
unfoldable pub clear_step : Window → Effect
clear_step w = let r = release 256 (retire_all_of w) in effect r.after done r.out

unfoldable pub clear_bounded_step : Window → ℕ → Effect
clear_bounded_step w n = let r = release_pages_of (pages_of w) 0 n (retire_all_of w) in effect r.after (found (length r.out)) r.out

unfoldable pub release_step : Window → ℕ → Effect
release_step w b = let r = release b w in effect r.after (released (length r.out) r.units) r.out

-- document 02, S-1: "Taking the front value removes the base's value and moves the base by one; if it is absent, nothing moves"
unfoldable pub front_step : Window → Effect
front_step w =
    let s = w.header.base in
    let r = remove_step w s in
    effect (cond (finds s (live_here w s)) (with_header r.after (set_base_of r.after.header (sequence_at_of s 1))) w) r.answer r.returned

-- what a query is answered
abbrev pub window_answer : Window → Query → Answer
window_answer w (get s) = value_if s (live_here w s)
window_answer w (successor_after s) = search_from (capacity_of w) (live_at w) (position (size_of w) (s + 1))
window_answer w (first_from s) = search_from (capacity_of w) (live_at w) (position (size_of w) s)
window_answer w (iter cell) = iter_step w cell
window_answer w (stranger a b) = stranger_in (size_of w) (live_at w) a b
window_answer w check = done
-- document 02, S-4: "The writer answers the number of words"; the reader "answers how many are lost"
window_answer w (write_losses a b places) = words_answer places (loss_list_of (size_of w) (live_at w) a b)
window_answer w (read_losses a b words places) = found (lost_count (named_flags a (range_count_of a b) words))

-- what a call does that is not refused for its arguments, the point left as it is
unfoldable pub window_does : Window → Call → Effect
window_does w (insert s v listed) = insert_step w s v
window_does w (exchange s v) = exchange_step w s v
window_does w (remove s) = remove_step w s
window_does w (remove_range a b listed) = range_step w (position (size_of w) a) (range_count_of a b)
window_does w (clear listed) = clear_step w
window_does w (clear_bounded n listed) = clear_bounded_step w n
window_does w (release_retired b listed) = release_step w b
window_does w (set_base s) = effect (with_header w (set_base_of w.header s)) done []
window_does w take_front = front_step w
window_does w (ask q) = effect w (window_answer w q) []

-- what refusals for arguments look at
abbrev pub known_by : AdaptiveReceiverPacketWindow → Known
known_by h = known h.window_size

-- document 02, S-1: "After every call on a sound state the point equals one worked out afresh"
abbrev pub repoint : Window → Window
repoint w = with_header w (set_point w.header (point_for w))

abbrev pub window_acts : Window → Call → Effect
window_acts w c = let e = window_does w c in effect (repoint e.after) e.answer e.returned

abbrev pub window_step : Window → Call → Effect
window_step w c = unless_refused (argument_refusal (known_by w.header) c) w (window_acts w c)
