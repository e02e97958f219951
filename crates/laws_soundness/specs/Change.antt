-- A window that differs from another in one page, and in its words and counts. Definitions only. Assumes nothing.
use Rattle.std.specs.Prelude.{◌≡◌, Bool, false, cond, not, ◌⊎◌, ℕ, ◌+◌, ◌/◌, ◌%◌, ◌^◌, ◌≤◌, ◌<◌, eqb}
use Rattle.std.proofs.Math.Option.{Option, none, some}
use Rattle.words.specs.Word.{bit_at, with_bit}
use Rattle.window.specs.declared.AdaptiveReceiverPacketWindow.{AdaptiveReceiverPacketWindow}
use Rattle.window.specs.declared.Cause.{Cause}
use Rattle.window.specs.declared.Cause.TheVariants.{Single, Range}
use Rattle.model.specs.Demand3.{one}
use Rattle.model.specs.Window.{Page, Window, no_page, capacity_of, pages_of, is_retired}
use Rattle.model.specs.Pages.{values_in_of, holds_value}
use Rattle.model.specs.Steps.{header_with, is_cause}
use Rattle.model.specs.Sound.{SoundPage, live_in, retired_in, Sound}

-- What lies past the last page is no part of the window. Soundness does not say it; it holds of every window that is read from lists.
abbrev pub NothingPast : Window → Type 0
NothingPast w = (g : ℕ) → pages_of w ≤ g → w.pages g ≡ no_page

-- A sound window with nothing past its last page, as every sound state reads. (Without this a block's mark could hide values past
-- the last page, which would be live when the mark goes.)
pub record Proper (w : Window) : Type 0 where
  pub sound : Sound w
  pub past : NothingPast w

-- what `new` sets and no call changes: window_size, N and demote_at
pub record Sizes : Type 0 where
  pub size : ℕ
  pub cells : ℕ
  pub demote_at : ℕ

abbrev pub sizes_of : AdaptiveReceiverPacketWindow → Sizes
sizes_of h = record { size = h.window_size; cells = h.n; demote_at = h.demote_at }

-- v has those of w
abbrev pub SameSizes : Window → Window → Type 0
SameSizes w v = sizes_of v.header ≡ sizes_of w.header

-- what no call of document 01 changes: these, base and point
pub record Limits : Type 0 where
  pub size : ℕ
  pub cells : ℕ
  pub demote_at : ℕ
  pub base : ℕ
  pub point : ℕ

abbrev pub limits_of : AdaptiveReceiverPacketWindow → Limits
limits_of h = record { size = h.window_size; cells = h.n; demote_at = h.demote_at; base = h.base; point = h.point }

abbrev pub SameLimits : Window → Window → Type 0
SameLimits w v = limits_of v.header ≡ limits_of w.header

-- these and the counts of demotions, the one of a cause not looked at
pub record Kept : Type 0 where
  pub limits : Limits
  pub single : ℕ
  pub range : ℕ

abbrev pub left_out : Cause → Option Cause → Bool
left_out k none = false
left_out k (some c) = is_cause k c

abbrev pub kept_but : Option Cause → AdaptiveReceiverPacketWindow → Kept
kept_but c h = record {
  limits = limits_of h;
  single = cond (left_out Single c) 0 h.single_demotions;
  range = cond (left_out Range c) 0 h.range_demotions;
}

abbrev pub SameBut : Option Cause → Window → Window → Type 0
SameBut c w v = kept_but c v.header ≡ kept_but c w.header

-- the bits of page g in its block's words
abbrev pub noted : Window → ℕ → ℕ
noted w g = bit_at (w.blocks (g / 64)).nonempty (g % 64)

abbrev pub marked : Window → ℕ → ℕ
marked w g = bit_at (w.blocks (g / 64)).retired (g % 64)

-- page h is as retired in v as in w, or is empty
abbrev pub SameStatus : Window → Window → ℕ → Type 0
SameStatus w v h = ((w.pages h).occupied ≡ 0) ⊎ (is_retired v h ≡ is_retired w h)

module _ (w v : Window) (g : ℕ) where
  -- v is w with q for page g, which is noted; counts and marks may differ too
  pub record Writes (q : Page) : Type 0 where
    pub header : v.header ≡ header_with w.header v.header.len v.header.retired_held w.header.release_cursor v.header.nonempty_summary v.header.retired_blocks v.header.promotions v.header.single_demotions v.header.range_demotions
    pub own_page : v.pages g ≡ q
    pub other_pages : (h : ℕ) → (h ≡ g → ⊥) → v.pages h ≡ w.pages h
    pub other_blocks : (b : ℕ) → (b ≡ g / 64 → ⊥) → v.blocks b ≡ w.blocks b
    pub nonempty : (v.blocks (g / 64)).nonempty ≡ with_bit (w.blocks (g / 64)).nonempty (g % 64) (one (holds_value q))
    pub summary : v.header.nonempty_summary ≡ with_bit w.header.nonempty_summary (g / 64) (one (not (eqb (v.blocks (g / 64)).nonempty 0)))

  -- marks of v: no other page that holds a value is newly retired or revived; marks in the block of g are on pages that hold a
  -- value; no new block mark, and none without a retired value
  pub record Marking : Type 0 where
    pub status : (h : ℕ) → (h ≡ g → ⊥) → SameStatus w v h
    pub marks : (i : ℕ) → i < 64 → bit_at (v.blocks (g / 64)).retired i ≡ 1 → bit_at (v.blocks (g / 64)).nonempty i ≡ 1
    pub marks_fit : (v.blocks (g / 64)).retired < 2 ^ 64
    pub block_marks : (b : ℕ) → bit_at v.header.retired_blocks b ≡ 1 → bit_at w.header.retired_blocks b ≡ 1
    pub no_block_mark : v.header.retired_held ≡ 0 → v.header.retired_blocks ≡ 0

  -- and the counts differ as those of the page do
  pub record Changes (q : Page) : Type 0 where
    pub writes : Writes q
    pub marking : Marking
    pub page : SoundPage w.header.n (capacity_of w) g q
    pub dense : is_retired v g ≡ false → q.kind ≡ 2 → (w.header.demote_at ≡ 0 → ⊥) → w.header.demote_at < values_in_of q
    pub live : (v.blocks (g / 64)).live + live_in w g ≡ (w.blocks (g / 64)).live + live_in v g
    pub len : v.header.len + live_in w g ≡ w.header.len + live_in v g
    pub held : v.header.retired_held + retired_in w g ≡ w.header.retired_held + retired_in v g

-- v is w, or w with one page changed
abbrev pub Alters : Window → Window → Type 0
Alters w v = (w ≡ v) ⊎ ((g : ℕ) × (q : Page) × (g < pages_of w) × Changes w v g q)
