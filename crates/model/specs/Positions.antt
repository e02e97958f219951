-- The window seen from its positions: what is live, what is retired and still held, where the next release begins, the base. Kinds of
-- pages, cells, marks, N and demote_at are left out: nothing here depends on them. The layer between the window and the plain
-- table; definitions only. Assumes nothing.
use Rattle.std.specs.Prelude.{Bool, true, false, cond, List, [], ◌∷◌, ◌++◌, ℕ, zero, suc, ◌+◌, ◌-◌, ◌*◌, ◌/◌, ◌%◌, leb, ltb, eqb, length}
use Rattle.std.proofs.Math.Option.{Option, none, some}
use Rattle.words.specs.First.{first_round}
use Rattle.window.specs.Memory.{capacity, page_count_of, position}
use Rattle.model.specs.Calls.{Call, insert, exchange, remove, remove_range, clear, clear_bounded, release_retired, set_base, take_front, ask, Answer, done, found, released, refused}
use Rattle.model.specs.Table.{Pair, Table, fresh, at, held, value_if, finds, sequence_at_of, put_at, put_answer_of, exchange_at, remove_at, range_count_of, known, argument_refusal, within, sum, held_in_range, TableState, table_answer}

pub record Positions : Type 0 where
  pub live : Table
  pub retired : Table
  pub cursor : ℕ
  pub base : ℕ

abbrev pub positions : Table → Table → (cursor base : ℕ) → Positions
positions live retired cursor base = record { live = live; retired = retired; cursor = cursor; base = base }

-- what the plain table has of them
abbrev pub plain : Positions → TableState
plain w = record { pairs = w.live; base = w.base }

-- ---- taking pairs out

-- a table, and the values taken out of it, in order
pub record Drained : Type 0 where
  pub left : Table
  pub out : List ℕ

abbrev pub drained : Table → List ℕ → Drained
drained t l = record { left = t; out = l }

-- take out the first k pairs at the n positions from p upwards
unfoldable pub drain : ℕ → ℕ → ℕ → Table → Drained
drain zero p k t = drained t []
drain (suc n) p zero t = drained t []
drain (suc n) p (suc k) t = elim (t p) [
  | none ↦ drain n (suc p) (suc k) t
  | some e ↦ drained (drain n (suc p) k (at t p none)).left (e.value ∷ (drain n (suc p) k (at t p none)).out)
]

-- ---- release

-- how many pairs page g holds; whether it holds one
unfoldable pub in_page : Table → ℕ → ℕ
in_page t g = sum 64 (λ (j : ℕ). held (t (64 * g + j)))

abbrev pub page_holds : Table → ℕ → Bool
page_holds t g = ltb 0 (in_page t g)

-- "Pages come from release_cursor upwards, then round": the first that holds a pair; the number of pages if none does
abbrev pub next_page : ℕ → Table → ℕ → ℕ
next_page pages t cursor = first_round (page_holds t) pages cursor

-- "An emptied page moves the cursor to the next page, another keeps it"
abbrev pub cursor_after : ℕ → Table → ℕ → ℕ
cursor_after pages t g = cond (page_holds t g) g ((g + 1) % pages)

pub record Released : Type 0 where
  pub retired : Table
  pub cursor : ℕ
  pub out : List ℕ
  pub units : ℕ

abbrev pub released_of : Table → ℕ → List ℕ → ℕ → Released
released_of t cursor out units = record { retired = t; cursor = cursor; out = out; units = units }

-- "Each page inspected and each value released costs one unit"; fuel bounds the pages inspected, and the budget is enough
unfoldable pub release : ℕ → ℕ → ℕ → Table → ℕ → Released
release pages zero b t c = released_of t c [] 0
release pages (suc f) zero t c = released_of t c [] 0
release pages (suc f) (suc b) t c = elim (ltb (next_page pages t c) pages) [
  | true ↦
      let g = next_page pages t c in
      let d = drain 64 (64 * g) b t in
      let r = release pages f (b - length d.out) d.left (cursor_after pages d.left g) in
      released_of r.retired r.cursor (d.out ++ r.out) (1 + length d.out + r.units)
  | false ↦ released_of t c [] 0
]

-- ---- retiring

-- the positions from a up to e, emptied in the one table and moved to the other
abbrev pub wipe : ℕ → ℕ → Table → Table
wipe a e t q = cond (within a e q) none (t q)

abbrev pub over : Option Pair → Option Pair → Option Pair
over none y = y
over (some x) y = some x

abbrev pub moved : ℕ → ℕ → Table → Table → Table
moved a e live retired q = cond (within a e q) (over (live q) (retired q)) (retired q)

pub record Swept : Type 0 where
  pub live : Table
  pub retired : Table
  pub out : List ℕ

abbrev pub swept : Table → Table → List ℕ → Swept
swept live retired out = record { live = live; retired = retired; out = out }

-- "A stretch inside one page is emptied value by value; otherwise its first partial page, then its last, then its whole .. pages get marks"
unfoldable pub sweep : ℕ → ℕ → Table → Table → Swept
sweep a e live retired =
    let from = (a + 63) / 64 * 64 in
    let to = e / 64 * 64 in
    let inside = drain (e - a) a 64 live in
    let head = drain (from - a) a 64 live in
    let tail = drain (e - to) to 64 head.left in
    cond (eqb (a / 64) ((e - 1) / 64))
    (swept inside.left retired inside.out)
    (swept (wipe from to tail.left) (moved from to tail.left retired) (head.out ++ tail.out))

-- "wrapping at capacity, first the stretch up to capacity, then that from 0"
unfoldable pub sweep_range : ℕ → ℕ → ℕ → Table → Table → Swept
sweep_range cap start count live retired =
    let first = sweep start cap live retired in
    let second = sweep 0 (start + count - cap) first.live first.retired in
    cond (leb (start + count) cap)
    (sweep start (start + count) live retired)
    (swept second.live second.retired (first.out ++ second.out))

-- ---- the calls

-- the state after a call, its answer (none where it is not known from the positions), and the values in its return list
pub record Result : Type 0 where
  pub after : Positions
  pub answer : Option Answer
  pub returned : List ℕ

abbrev pub result : Positions → Option Answer → List ℕ → Result
result w a l = record { after = w; answer = a; returned = l }

abbrev pub stays : Positions → Option Answer → Result
stays w a = result w a []

-- a refusal k for arguments, with no step; 0 is none
abbrev pub unless_refused : ℕ → Positions → Result → Result
unless_refused zero w r = r
unless_refused (suc k) w r = stays w (some (refused (suc k)))

abbrev pub retired_count : ℕ → Positions → ℕ
retired_count cap w = sum cap (λ (q : ℕ). held (w.retired q))

-- a call that ends in a release with 256 from cursor c, the values `out` returned before it
abbrev pub then_release : ℕ → Table → Table → (cursor base : ℕ) → List ℕ → Answer → Result
then_release pages live retired c base out a =
    let r = release pages 256 256 retired c in
    result (positions live r.retired r.cursor base) (some a) (out ++ r.out)

abbrev pub range_step : ℕ → Positions → ℕ → ℕ → Result
range_step size w start count =
    let s = sweep_range (capacity size) start count w.live w.retired in
    then_release (page_count_of size) s.live s.retired
    (cond (ltb 0 (retired_count (capacity size) w)) w.cursor (start / 64)) w.base s.out
    (found (held_in_range (capacity size) start count w.live))

-- what a call does that is not refused for its arguments
unfoldable pub does : ℕ → Positions → Call → Result
does size w (insert s v listed) =
    let p = position size s in
    let d = drain 64 (64 * (p / 64)) 64 w.retired in
    result (positions (at w.live p (put_at s v (w.live p))) d.left w.cursor w.base) (some (put_answer_of s (w.live p))) d.out
does size w (exchange s v) =
    let p = position size s in
    stays (positions (at w.live p (exchange_at s v (w.live p))) w.retired w.cursor w.base) (some (value_if s (w.live p)))
does size w (remove s) =
    let p = position size s in
    stays (positions (at w.live p (remove_at s (w.live p))) w.retired w.cursor w.base) (some (value_if s (w.live p)))
does size w (remove_range a b listed) = range_step size w (position size a) (range_count_of a b)
does size w (clear listed) = then_release (page_count_of size) fresh (moved 0 (capacity size) w.live w.retired) w.cursor w.base [] done
does size w (clear_bounded n listed) =
    let d = drain (capacity size) 0 n (moved 0 (capacity size) w.live w.retired) in
    result (positions fresh d.left w.cursor w.base) (some (found (length d.out))) d.out
does size w (release_retired b listed) =
    let r = release (page_count_of size) b b w.retired w.cursor in
    result (positions w.live r.retired r.cursor w.base) (some (released (length r.out) r.units)) r.out
does size w (set_base s) = stays (positions w.live w.retired w.cursor s) (some done)
does size w take_front =
    let s = w.base in
    let p = position size s in
    stays (positions (at w.live p (remove_at s (w.live p))) w.retired w.cursor (cond (finds s (w.live p)) (sequence_at_of s 1) s))
    (some (value_if s (w.live p)))
does size w (ask q) = stays w (table_answer size (plain w) q)

abbrev pub step : ℕ → Positions → Call → Result
step size w c = unless_refused (argument_refusal (known size) c) w (does size w c)

abbrev pub fresh_positions : Positions
fresh_positions = positions fresh fresh 0 0
