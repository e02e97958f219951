-- What retiring by marks promises: on any memory, where it writes and that the limits stay; on a window whose counts have room, what
-- the model's definitions say. Definitions only. Assumes nothing.
use Rattle.std.specs.Prelude.{◌≡◌, ℕ, suc, ◌+◌, ◌-◌, ◌*◌, ◌/◌, ◌%◌, ◌^◌, ◌<◌, ◌≤◌, true, cond, List, length, drop, ◌==◌}
use Rattle.words.specs.Word.{is_set}
use Rattle.window.specs.declared.AdaptiveReceiverPacketWindow.{AdaptiveReceiverPacketWindow}
use Rattle.window.specs.Memory.{memory, page_count_of, block_count_of, words_per_page, words_per_block, RowIn}
use Rattle.model.specs.Window.{Window, decode}
use Rattle.model.specs.Steps.{pages_in, retire_in_block, retire_block_of, retire_pages_of, retire_all_of}
use Rattle.block_marks.specs.declared.BlockWords.{BlockWords}
use Rattle.block_marks.specs.declared.Change.{Change}
use Rattle.block_marks.specs.Promises.{Changes}
use Rattle.laws_soundness.specs.Change.{limits_of}
use Rattle.block_retire.specs.Retire.{retire_each}

-- the words of every page that a mask names in block b are in the list
abbrev pub PagesNamed : List ℕ → ℕ → ℕ → Type 0
PagesNamed pages b mask = (i : ℕ) → i < 64 → is_set mask i ≡ true → RowIn words_per_page (64 * b + i) pages

-- block b of a window of this header, inside its list; the count of retired values has room for the values of a block
pub record Room (h : AdaptiveReceiverPacketWindow) (blocks : List ℕ) (b : ℕ) : Type 0 where
  pub below : b < block_count_of h.window_size
  pub blocks_long : words_per_block * block_count_of h.window_size ≤ length blocks
  pub held : h.retired_held + 4096 < 2 ^ 32

-- the words of blocks below `to` may have changed, and the header but for its limits
pub record Touches (h : AdaptiveReceiverPacketWindow) (blocks : List ℕ) (to : ℕ) (r : AdaptiveReceiverPacketWindow) (blocks' : List ℕ) : Type 0 where
  pub limits : limits_of r ≡ limits_of h
  pub long : length blocks' ≡ length blocks
  pub past : (n : ℕ) → to ≤ n → drop (words_per_block * n) blocks' ≡ drop (words_per_block * n) blocks

pub record RetiresInBlock (h : AdaptiveReceiverPacketWindow) (pages blocks : List ℕ) (b mask : ℕ) (r : AdaptiveReceiverPacketWindow) (blocks' : List ℕ) : Type 0 where
  pub touches : Touches h blocks (b + 1) r blocks'
  pub gives : Room h blocks b → (from to : ℕ) → to ≤ page_count_of h.window_size → ((i : ℕ) → i < 64 → is_set mask i ≡ pages_in from to b i)
      → (ss vs : List ℕ) → decode r (memory ss vs pages blocks') ≡ retire_in_block (decode h (memory ss vs pages blocks)) from to b

-- ---- whole blocks

pub record RetiresBlock (h : AdaptiveReceiverPacketWindow) (x : BlockWords) (b : ℕ) (r : Change) : Type 0 where
  pub limits : limits_of r.window ≡ limits_of h
  pub gives : x.live ≤ 4096 → h.retired_held + 4096 < 2 ^ 32 → Changes (λ (v : Window). retire_block_of v b) h x b r

-- the words of every block that a mask names are in the list
abbrev pub BlocksNamed : List ℕ → ℕ → Type 0
BlocksNamed blocks mask = (i : ℕ) → i < 64 → is_set mask i ≡ true → (i < 16) × RowIn words_per_block i blocks

-- a block has at most 4096 live values, and none if it has its mark; the count of retired values has room for m blocks
pub record Counted (m : ℕ) (w : Window) : Type 0 where
  pub held : w.header.retired_held + 4096 * m ≤ 2 ^ 20
  pub live : (b : ℕ) → (w.blocks b).live ≤ 4096
  pub idle : (b : ℕ) → is_set w.header.retired_blocks b ≡ true → (w.blocks b).live ≡ 0

pub record RetiresBlocks (h : AdaptiveReceiverPacketWindow) (blocks : List ℕ) (mask : ℕ) (r : AdaptiveReceiverPacketWindow) (blocks' : List ℕ) : Type 0 where
  pub touches : (to : ℕ) → ((i : ℕ) → i < 64 → is_set mask i ≡ true → i < to) → Touches h blocks to r blocks'
  pub gives : ((i : ℕ) → i < 64 → is_set mask i ≡ true → i < block_count_of h.window_size) → words_per_block * block_count_of h.window_size ≤ length blocks
      → (ss vs pages : List ℕ) → Counted 64 (decode h (memory ss vs pages blocks))
      → decode r (memory ss vs pages blocks') ≡ retire_each 64 0 (is_set mask) (decode h (memory ss vs pages blocks))

-- ---- every value

pub record RetiresAll (h : AdaptiveReceiverPacketWindow) (blocks : List ℕ) (r : AdaptiveReceiverPacketWindow) (blocks' : List ℕ) : Type 0 where
  pub touches : Touches h blocks (block_count_of h.window_size) r blocks'
  pub gives : h.retired_held + h.len < 2 ^ 32 → (ss vs pages : List ℕ)
      → decode r (memory ss vs pages blocks') ≡ retire_all_of (decode h (memory ss vs pages blocks))

-- ---- a run of whole pages

-- pages of a window of this header, inside its lists
pub record Run (h : AdaptiveReceiverPacketWindow) (blocks : List ℕ) (to : ℕ) : Type 0 where
  pub inside : to ≤ page_count_of h.window_size
  pub long : words_per_block * block_count_of h.window_size ≤ length blocks

module _ (h : AdaptiveReceiverPacketWindow) (pages blocks : List ℕ) where
  abbrev window_of : List ℕ → List ℕ → Window
  window_of ss vs = decode h (memory ss vs pages blocks)

  pub record RetiresFirst (from : ℕ) (r : AdaptiveReceiverPacketWindow) (blocks' : List ℕ) : Type 0 where
    pub touches : Touches h blocks (from / 64 + 1) r blocks'
    pub gives : (to : ℕ) → Run h blocks to → 64 * (from / 64) + 64 ≤ to → (m : ℕ) (ss vs : List ℕ) → Counted (suc m) (window_of ss vs)
        → decode r (memory ss vs pages blocks') ≡ cond (from % 64 == 0) (window_of ss vs) (retire_in_block (window_of ss vs) from to (from / 64))

  pub record RetiresLast (to : ℕ) (r : AdaptiveReceiverPacketWindow) (blocks' : List ℕ) : Type 0 where
    pub touches : Touches h blocks ((to + 63) / 64) r blocks'
    pub gives : (from : ℕ) → Run h blocks to → from ≤ 64 * (to / 64) → (m : ℕ) (ss vs : List ℕ) → Counted (suc m) (window_of ss vs)
        → decode r (memory ss vs pages blocks') ≡ cond (to % 64 == 0) (window_of ss vs) (retire_in_block (window_of ss vs) from to (to / 64))

  pub record RetiresPages (from to : ℕ) (r : AdaptiveReceiverPacketWindow) (blocks' : List ℕ) : Type 0 where
    pub touches : Touches h blocks ((to + 63) / 64) r blocks'
    pub gives : Run h blocks to → (ss vs : List ℕ) → Counted 66 (window_of ss vs) → decode r (memory ss vs pages blocks') ≡ retire_pages_of (window_of ss vs) from to

pub record RetiresBetween (h : AdaptiveReceiverPacketWindow) (blocks : List ℕ) (from to : ℕ) (r : AdaptiveReceiverPacketWindow) (blocks' : List ℕ) : Type 0 where
  pub touches : Touches h blocks (to / 64) r blocks'
  pub gives : Run h blocks to → (ss vs pages : List ℕ) → Counted 64 (decode h (memory ss vs pages blocks))
      → decode r (memory ss vs pages blocks') ≡ retire_each (to / 64 - (from + 63) / 64) ((from + 63) / 64) (λ (i : ℕ). true) (decode h (memory ss vs pages blocks))
