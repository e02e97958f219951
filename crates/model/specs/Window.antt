-- The window as pages and blocks, its reading from the lent lists, and what stands at a position: live, retired or nothing.
-- Document 01, 'Pages', 'Masks and search', and iter of 'Beside the port'. Definitions only. Assumes nothing.
use Rattle.std.specs.Prelude.{Bool, true, false, cond, not, ◌&&◌, ◌||◌, List, [], ◌∷◌, ℕ, zero, suc, ◌+◌, ◌-◌, ◌*◌, ◌/◌, ◌%◌, ltb, eqb, get_or}
use Rattle.std.proofs.Math.Option.{Option, none, some}
use Rattle.words.specs.First.{first_from_of}
use Rattle.words.specs.Word.{is_set}
use Rattle.window.specs.declared.AdaptiveReceiverPacketWindow.{AdaptiveReceiverPacketWindow}
use Rattle.window.specs.Memory.{Memory, capacity, page_count_of, block_count_of, words_per_page, words_per_block, word_at}
use Rattle.window.specs.New.{fresh}
use Rattle.model.specs.Calls.{Answer, done, new, replaced, absent, found, pair, ended, released, refused}
use Rattle.model.specs.Table.{Pair, pair_of, Table}
use Rattle.model.specs.Point.{point_of}

-- "Page words: kind (0 none, 1 sparse, 2 dense), occupied (bit p: position p of the page has a value), filled (bit c: cell c is in
-- use)"; then its 64 cells, each a sequence and a value. A cell not in use may hold anything, and the definitions say what.
pub record Page : Type 0 where
  pub kind : ℕ
  pub occupied : ℕ
  pub filled : ℕ
  pub sequences : ℕ → ℕ
  pub values : ℕ → ℕ

-- "Block words: pages holding a value, pages marked retired, live values"
pub record Block : Type 0 where
  pub nonempty : ℕ
  pub retired : ℕ
  pub live : ℕ

pub record Window : Type 0 where
  pub header : AdaptiveReceiverPacketWindow
  pub pages : ℕ → Page
  pub blocks : ℕ → Block

abbrev pub window : AdaptiveReceiverPacketWindow → (ℕ → Page) → (ℕ → Block) → Window
window h pages blocks = record { header = h; pages = pages; blocks = blocks }

-- f with x at k
abbrev pub upd {ℓ} : {A : Type ℓ} → (ℕ → A) → ℕ → A → ℕ → A
upd f k x j = cond (eqb j k) x (f j)

abbrev pub size_of : Window → ℕ
size_of w = w.header.window_size

abbrev pub capacity_of : Window → ℕ
capacity_of w = capacity (size_of w)

abbrev pub pages_of : Window → ℕ
pages_of w = page_count_of (size_of w)

abbrev pub blocks_of : Window → ℕ
blocks_of w = block_count_of (size_of w)

-- ---- the lent lists, read as a window: "3 words (u64) for each page and 3 for each block", cells from 64 × page on

abbrev pub cells_at : List ℕ → ℕ → ℕ → ℕ
cells_at list g c = cond (ltb c 64) (get_or list (64 * g + c) 0) 0

abbrev pub no_page : Page
no_page = record { kind = 0; occupied = 0; filled = 0; sequences = λ c. 0; values = λ c. 0 }

abbrev pub page_at : Memory → ℕ → Page
page_at m g = record {
  kind = word_at words_per_page m.pages g 0;
  occupied = word_at words_per_page m.pages g 1;
  filled = word_at words_per_page m.pages g 2;
  sequences = cells_at m.sequences g;
  values = cells_at m.values g;
}

abbrev pub no_block : Block
no_block = record { nonempty = 0; retired = 0; live = 0 }

abbrev pub block_at : Memory → ℕ → Block
block_at m b = record {
  nonempty = word_at words_per_block m.blocks b 0;
  retired = word_at words_per_block m.blocks b 1;
  live = word_at words_per_block m.blocks b 2;
}

-- what lies past the named lengths is no part of the window
unfoldable pub decode : AdaptiveReceiverPacketWindow → Memory → Window
decode h m =
    window h
    (λ (g : ℕ). cond (ltb g (page_count_of h.window_size)) (page_at m g) no_page)
    (λ (b : ℕ). cond (ltb b (block_count_of h.window_size)) (block_at m b) no_block)

-- the window that `new` makes: every word is 0, and the cells are as they came
abbrev pub empty_page : Memory → ℕ → Page
empty_page m g = record { kind = 0; occupied = 0; filled = 0; sequences = cells_at m.sequences g; values = cells_at m.values g }

unfoldable pub fresh_window : ℕ → ℕ → ℕ → Memory → Window
fresh_window size n demote_at m =
    window (fresh size n demote_at) (λ (g : ℕ). cond (ltb g (page_count_of size)) (empty_page m g) no_page) (λ (b : ℕ). no_block)

-- ---- what stands at a position

-- the cell in use whose sequence is at position j of the page; 64 if there is none
unfoldable pub cell_of : Page → ℕ → ℕ
cell_of p j = first_from_of (λ (c : ℕ). is_set p.filled c && eqb (p.sequences c % 64) j) 64 0

abbrev pub pair_in : Page → ℕ → Pair
pair_in p c = pair_of (p.sequences c) (p.values c)

abbrev pub stands_at : Page → ℕ → Option Pair
stands_at p j = cond (ltb (cell_of p j) 64) (some (pair_in p (cell_of p j))) none

-- "A retired block bit retires all its pages"
abbrev pub is_retired : Window → ℕ → Bool
is_retired w g = is_set w.header.retired_blocks (g / 64) || is_set (w.blocks (g / 64)).retired (g % 64)

abbrev pub live_at : Window → Table
live_at w q = cond (is_retired w (q / 64)) none (stands_at (w.pages (q / 64)) (q % 64))

abbrev pub retired_at : Window → Table
retired_at w q = cond (is_retired w (q / 64)) (stands_at (w.pages (q / 64)) (q % 64)) none

-- document 02, S-1: the acknowledge point, worked out afresh
abbrev pub point_for : Window → ℕ
point_for w = point_of (size_of w) (live_at w) w.header.base

-- ---- iter, and what is seen of a window

-- cell n of the window is cell n % 64 of page n / 64
abbrev pub in_use : Window → ℕ → Bool
in_use w n = is_set (w.pages (n / 64)).filled (n % 64)

abbrev pub is_reached : Window → ℕ → Bool
is_reached w n = in_use w n && not (is_retired w (n / 64))

abbrev pub cell_pair : Window → ℕ → Pair
cell_pair w n = pair_in (w.pages (n / 64)) (n % 64)

-- how many blocks the cells from n to c lie in: a block is 64 pages of 64 cells
abbrev pub blocks_from : ℕ → ℕ → ℕ
blocks_from n c = c / 4096 - n / 4096 + 1

-- document 02, S-2, the reads of a step from cell n: "one for each block from the given cell's to the found pair's, or to the last when
-- done, and none from capacity or more"; c is the found pair's cell, or not below the capacity when done
abbrev pub reads_of : (capacity n c : ℕ) → ℕ
reads_of capacity n c = cond (ltb n capacity) (blocks_from n (cond (ltb c capacity) c (capacity - 1))) 0

-- "iter is a step: from a cell number, the next reachable pair in page order then cell order with the cell after it, or done (also
-- from capacity or more)"; document 02, S-2: "The step's answer also carries the number of these reads"
unfoldable pub iter_step : Window → ℕ → Answer
iter_step w n =
    let c = first_from_of (is_reached w) (capacity_of w - n) n in
    let reads = reads_of (capacity_of w) n c in
    cond (ltb c (capacity_of w)) (pair (cell_pair w c).sequence (cell_pair w c).value (c + 1) reads) (ended reads)

-- the pair of a step, and then what comes from the cell after it; nothing if it is done
abbrev pub and_then : Answer → (ℕ → List Pair) → List Pair
and_then done rest = []
and_then new rest = []
and_then (replaced v) rest = []
and_then absent rest = []
and_then (found n) rest = []
and_then (pair s v next reads) rest = pair_of s v ∷ rest next
and_then (ended reads) rest = []
and_then (released values units) rest = []
and_then (refused k) rest = []

-- "Live pairs are those iter gives from 0 until done": at most one for each cell
unfoldable pub pairs_from : ℕ → Window → ℕ → List Pair
pairs_from zero w n = []
pairs_from (suc fuel) w n = and_then (iter_step w n) (pairs_from fuel w)

abbrev pub live_pairs_of : Window → List Pair
live_pairs_of w = pairs_from (capacity_of w) w 0

-- "Retired are the values in cells in use that iter does not reach", of the cells below n
unfoldable pub unreached : ℕ → Window → List ℕ
unreached zero w = []
unreached (suc n) w = elim (in_use w n && not (is_reached w n)) [ true ↦ (cell_pair w n).value ∷ unreached n w | false ↦ unreached n w ]

abbrev pub retired_values : Window → List ℕ
retired_values w = unreached (capacity_of w) w
