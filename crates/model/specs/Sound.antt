-- What a sound state is: document 01's sentence on `check`, clause by clause, and what document 02 adds. Definitions only.
-- Assumes nothing.
use Rattle.std.specs.Prelude.{◌≡◌, true, false, cond, not, ℕ, ◌+◌, ◌*◌, ◌/◌, ◌%◌, ◌^◌, ◌≤◌, ◌<◌, eqb}
use Rattle.words.specs.Word.{bit_at}
use Rattle.window.specs.Refusals.{Within}
use Rattle.model.specs.Table.{sum}
use Rattle.model.specs.Demand3.{one}
use Rattle.model.specs.Window.{Page, Window, capacity_of, pages_of, blocks_of, is_retired, point_for}
use Rattle.model.specs.Pages.{values_in_of, holds_value}

-- cell c of the page is in use
abbrev pub Used : Page → ℕ → Type 0
Used p c = bit_at p.filled c ≡ 1

-- page g of a window of this N and capacity
pub record SoundPage (n cap g : ℕ) (p : Page) : Type 0 where
  -- "kinds are 0 to 2"
  pub kinds : p.kind ≤ 2
  -- "kind 0 has empty words, others a nonempty occupied"
  pub none_occupied : p.kind ≡ 0 → p.occupied ≡ 0
  pub none_filled : p.kind ≡ 0 → p.filled ≡ 0
  pub some_occupied : (p.kind ≡ 0 → ⊥) → p.occupied ≡ 0 → ⊥
  -- "occupied names just the positions of the filled cells, each once, all of this page"
  pub named : (c : ℕ) → c < 64 → Used p c → bit_at p.occupied (p.sequences c % 64) ≡ 1
  pub filled_by : (j : ℕ) → j < 64 → bit_at p.occupied j ≡ 1 → (c : ℕ) × (c < 64) × Used p c × (p.sequences c % 64 ≡ j)
  pub once : (c d : ℕ) → c < 64 → d < 64 → Used p c → Used p d → p.sequences c % 64 ≡ p.sequences d % 64 → c ≡ d
  pub here : (c : ℕ) → c < 64 → Used p c → p.sequences c % cap / 64 ≡ g
  -- document 02, S-3, on numbers with the top bit set: "check allows none in a cell in use"
  pub wire : (c : ℕ) → c < 64 → Used p c → p.sequences c < 2 ^ 31
  -- "sparse fills only the first N"
  pub sparse : p.kind ≡ 1 → (c : ℕ) → c < 64 → Used p c → c < n
  -- "dense has filled = occupied and each filled cell's sequence at that cell's position"
  pub dense_filled : p.kind ≡ 2 → p.filled ≡ p.occupied
  pub dense_cells : p.kind ≡ 2 → (c : ℕ) → c < 64 → Used p c → p.sequences c % 64 ≡ c
  -- the words have 64 bits
  pub occupied_fits : p.occupied < 2 ^ 64
  pub filled_fits : p.filled < 2 ^ 64

-- the live values of page g, and the retired
abbrev pub live_in : Window → ℕ → ℕ
live_in w g = cond (is_retired w g) 0 (values_in_of (w.pages g))

abbrev pub retired_in : Window → ℕ → ℕ
retired_in w g = cond (is_retired w g) (values_in_of (w.pages g)) 0

pub record Sound (w : Window) : Type 0 where
  -- the header is inside the limits of refusals 1 to 3
  pub within : Within w.header.window_size w.header.n w.header.demote_at
  pub page : (g : ℕ) → g < pages_of w → SoundPage w.header.n (capacity_of w) g (w.pages g)
  -- "a live dense page has more than demote_at values when demote_at is not 0"
  pub dense : (g : ℕ) → g < pages_of w → is_retired w g ≡ false → (w.pages g).kind ≡ 2 → (w.header.demote_at ≡ 0 → ⊥) → w.header.demote_at < values_in_of (w.pages g)
  -- "nonempty words and summary match"
  pub nonempty : (g : ℕ) → g < pages_of w → bit_at (w.blocks (g / 64)).nonempty (g % 64) ≡ one (holds_value (w.pages g))
  pub summary : (b : ℕ) → b < blocks_of w → bit_at w.header.nonempty_summary b ≡ one (not (eqb (w.blocks b).nonempty 0))
  -- "page marks only on nonempty pages"
  pub marks : (g : ℕ) → g < pages_of w → bit_at (w.blocks (g / 64)).retired (g % 64) ≡ 1 → holds_value (w.pages g) ≡ true
  -- "live words, len and retired_held are the sums"
  pub live : (b : ℕ) → b < blocks_of w → (w.blocks b).live ≡ sum 64 (λ (i : ℕ). live_in w (64 * b + i))
  pub len : w.header.len ≡ sum (pages_of w) (live_in w)
  pub held : w.header.retired_held ≡ sum (pages_of w) (retired_in w)
  -- "release_cursor is a page"
  pub cursor : w.header.release_cursor < pages_of w
  -- "no bits past the last page or block"
  pub nonempty_bits : (g : ℕ) → pages_of w ≤ g → bit_at (w.blocks (g / 64)).nonempty (g % 64) ≡ 0
  pub retired_bits : (g : ℕ) → pages_of w ≤ g → bit_at (w.blocks (g / 64)).retired (g % 64) ≡ 0
  pub summary_bits : (b : ℕ) → blocks_of w ≤ b → bit_at w.header.nonempty_summary b ≡ 0
  pub retired_block_bits : (b : ℕ) → blocks_of w ≤ b → bit_at w.header.retired_blocks b ≡ 0
  -- "retired_held 0 means no mark"
  pub no_block_mark : w.header.retired_held ≡ 0 → w.header.retired_blocks ≡ 0
  pub no_page_mark : w.header.retired_held ≡ 0 → (b : ℕ) → b < blocks_of w → (w.blocks b).retired ≡ 0
  -- the words have 64 bits
  pub nonempty_fits : (b : ℕ) → (w.blocks b).nonempty < 2 ^ 64
  pub retired_fits : (b : ℕ) → (w.blocks b).retired < 2 ^ 64

-- document 02, S-1: "After every call on a sound state the point equals one worked out afresh, and check requires that and a base
-- below 2147483648"
pub record SoundWithPoint (w : Window) : Type 0 where
  pub sound : Sound w
  pub base : w.header.base < 2 ^ 31
  pub point : w.header.point ≡ point_for w
