-- What the functions promise: inside the lists whatever they hold; on a page whose values are in their places, and on a sound window,
-- what the definitions of the model say. The values are not looked at. Definitions only. Assumes nothing.
use Rattle.std.specs.Prelude.{◌≡◌, ℕ, ◌+◌, ◌-◌, ◌*◌, ◌/◌, ◌%◌, ◌^◌, ◌<◌, ◌≤◌, Bool, true, false, cond, ◌&&◌, List, length, ◌==◌, nat_le, nat_lt, slice_index}
use Rattle.words.specs.Word.{bit_at}
use Rattle.window.specs.declared.AdaptiveReceiverPacketWindow.{AdaptiveReceiverPacketWindow}
use Rattle.window.specs.Memory.{memory, capacity, page_count_of, block_count_of, words_per_page, words_per_block}
use Rattle.window.specs.Refusals.{Within}
use Rattle.model.specs.Table.{finds, sequence_at_of}
use Rattle.model.specs.Point.{is_live, point_of}
use Rattle.model.specs.Window.{Window, decode, live_at, stands_at}
use Rattle.model.specs.Steps.{set_base_of, set_point}
use Rattle.model.specs.Sound.{Sound}
use Rattle.laws_acknowledge.specs.Advance.{advance}
use Rattle.laws_acknowledge.specs.Increments.{after_insert_of, after_set_base}
use Rattle.page_base.specs.declared.PageWords.{PageWords}
use Rattle.page_base.specs.Page.{page, Placed}
use Rattle.page_check.specs.Promises.{Decides}

-- ---- one page; 64 × row + j is the sequence asked for at position j

-- cell c is in use, and its sequence is of this row
abbrev pub InRow : List ℕ → (filled row c : ℕ) → Type 0
InRow ss filled row c = (bit_at filled c ≡ 1) × (slice_index ss c / 64 ≡ row)

-- r is the first cell from `slot` on that is not so; 64 if there is none
pub record DenseRun (ss : List ℕ) (filled slot row r : ℕ) : Type 0 where
  pub from : slot ≤ r
  pub top : r ≤ 64
  pub held : (c : ℕ) → slot ≤ c → c < r → InRow ss filled row c
  pub missed : r < 64 → InRow ss filled row r → ⊥

-- the bits of `mask` are the positions of those of the first n cells that are so
pub record Masks (ss : List ℕ) (filled row n mask : ℕ) : Type 0 where
  pub held : (j : ℕ) → j < 64 → bit_at mask j ≡ 1 → (c : ℕ) × (c < n) × InRow ss filled row c × (slice_index ss c % 64 ≡ j)
  pub all : (c : ℕ) → c < n → InRow ss filled row c → bit_at mask (slice_index ss c % 64) ≡ 1

-- the cells that a page with these words may use
abbrev pub cells_for : ℕ → PageWords → ℕ
cells_for n w = cond (w.kind == 2) 64 n

-- the bits of `mask` are the positions at which the sequence asked for stands
abbrev pub StandsIn : (n : ℕ) → PageWords → List ℕ → (row mask : ℕ) → Type 0
StandsIn n w ss row mask = Masks ss w.filled row (cells_for n w) mask

-- r is the first position from `slot` on at which the sequence asked for does not stand; 64 if there is none
pub record Runs (n : ℕ) (w : PageWords) (ss : List ℕ) (slot row r : ℕ) : Type 0 where
  pub from : slot ≤ r
  pub top : r ≤ 64
  pub live : (vs : List ℕ) → Placed n (page w ss vs) → (j : ℕ) → slot ≤ j → j < r → finds (64 * row + j) (stands_at (page w ss vs) j) ≡ true
  pub missed : (vs : List ℕ) → Placed n (page w ss vs) → r < 64 → finds (64 * row + r) (stands_at (page w ss vs) r) ≡ false

-- ---- the whole window

-- v with window_size, N and demote_at of w
abbrev pub with_sizes_of : AdaptiveReceiverPacketWindow → AdaptiveReceiverPacketWindow → AdaptiveReceiverPacketWindow
with_sizes_of v w = record {
  window_size = w.window_size;
  n = w.n;
  demote_at = w.demote_at;
  len = v.len;
  retired_held = v.retired_held;
  release_cursor = v.release_cursor;
  base = v.base;
  point = v.point;
  nonempty_summary = v.nonempty_summary;
  retired_blocks = v.retired_blocks;
  promotions = v.promotions;
  single_demotions = v.single_demotions;
  range_demotions = v.range_demotions;
}

-- a point `reach` from its base stays for a base that is d on; if not, the advance is from this distance on
abbrev pub point_stays_of : (size reach d : ℕ) → Bool
point_stays_of size reach d = nat_le d reach && nat_lt reach size

abbrev pub advance_from_of : (size reach d : ℕ) → ℕ
advance_from_of size reach d = cond (nat_le d reach && reach == size) (size - d) 0

-- the lists that are looked at are as long as the header names them
pub record ListsLent (h : AdaptiveReceiverPacketWindow) (ss pages blocks : List ℕ) : Type 0 where
  pub within : Within h.window_size h.n h.demote_at
  pub sequences_long : capacity h.window_size ≤ length ss
  pub pages_long : words_per_page * page_count_of h.window_size ≤ length pages
  pub blocks_long : words_per_block * block_count_of h.window_size ≤ length blocks

-- of every sound window with this header and these lists
module _ (h : AdaptiveReceiverPacketWindow) (ss pages blocks : List ℕ) where
  abbrev window_for : List ℕ → Window
  window_for vs = decode h (memory ss vs pages blocks)

  -- 64 × (s / 64) + j is the sequence expected at position j of the page of s: r is the first position from s's own on at which it is
  -- not live; 64 if there is none
  pub record LiveRun (s r : ℕ) : Type 0 where
    pub from : s % 64 ≤ r
    pub top : r ≤ 64
    pub live : (vs : List ℕ) → Sound (window_for vs) → (j : ℕ) → s % 64 ≤ j → j < r
        → is_live h.window_size (live_at (window_for vs)) (64 * (s / 64) + j) ≡ true
    pub missed : (vs : List ℕ) → Sound (window_for vs) → r < 64 → is_live h.window_size (live_at (window_for vs)) (64 * (s / 64) + r) ≡ false

  -- r is the advance from distance d
  pub record Advances (base d r : ℕ) : Type 0 where
    pub from : d ≤ r
    pub top : r ≤ h.window_size
    pub is : (vs : List ℕ) → Sound (window_for vs) → r ≡ advance h.window_size (live_at (window_for vs)) base d

  -- r is the sequence there
  pub record PointFrom (base d r : ℕ) : Type 0 where
    pub is : (vs : List ℕ) → Sound (window_for vs) → r ≡ sequence_at_of base (advance h.window_size (live_at (window_for vs)) base d)

  -- r is the header v with the point after an insert of s that put a new pair
  pub record Inserts (v : AdaptiveReceiverPacketWindow) (s : ℕ) (r : AdaptiveReceiverPacketWindow) : Type 0 where
    pub header : r ≡ set_point v r.point
    pub point : (vs : List ℕ) → Sound (window_for vs) → r.point ≡ after_insert_of h.window_size (live_at (window_for vs)) h.base h.point s true

  -- r is the point for another base
  pub record MovesPoint (base r : ℕ) : Type 0 where
    pub is : (vs : List ℕ) → Sound (window_for vs) → r ≡ after_set_base h.window_size (live_at (window_for vs)) h.base h.point base

  -- r is the header v with that base and that point
  pub record MovesBase (v : AdaptiveReceiverPacketWindow) (base : ℕ) (r : AdaptiveReceiverPacketWindow) : Type 0 where
    pub header : r ≡ set_base_of (set_point v r.point) base
    pub point : (vs : List ℕ) → Sound (window_for vs) → r.point ≡ after_set_base h.window_size (live_at (window_for vs)) h.base h.point base

  -- r says whether the base is below 2 ^ 31 and the point is the one worked out afresh
  pub record DecidesCurrent (r : Bool) : Type 0 where
    pub is : (vs : List ℕ) → Sound (window_for vs)
        → Decides ((h.base < 2 ^ 31) × (h.point ≡ point_of h.window_size (live_at (window_for vs)) h.base)) r
