-- Which sequences are seen live in a header and lists of any content, and what the functions promise of them. On a sound window these are the
-- live ones. Definitions only. Assumes nothing.
use Rattle.std.specs.Prelude.{◌≡◌, Bool, cond, not, ◌&&◌, List, ℕ, ◌+◌, ◌-◌, ◌*◌, ◌/◌, ◌%◌, ◌^◌, ◌≤◌, ◌<◌, eqb, ltb, get_or}
use Rattle.words.specs.First.{first_from_of}
use Rattle.words.specs.Word.{is_set, lowest}
use Rattle.window.specs.declared.AdaptiveReceiverPacketWindow.{AdaptiveReceiverPacketWindow}
use Rattle.window.specs.Memory.{position}
use Rattle.model.specs.Table.{sequence_at_of}
use Rattle.page_base.specs.Page.{words_at, part_of}
use Rattle.call_base.specs.Promises.{reached_by}
use Rattle.acknowledge.specs.Promises.{cells_for}
use Rattle.loss_stretch.specs.declared.Stretch.{Stretch}

-- one of the first n cells is in use and holds the sequence s
abbrev pub holds_in : List ℕ → (filled n s : ℕ) → Bool
holds_in ss filled n s = ltb (first_from_of (λ (c : ℕ). is_set filled c && eqb (get_or ss c 0) s) n 0) n

-- the first bit from `slot` on that is not as bit `slot` is; 64 if all are
abbrev pub row_end_of : (mask slot : ℕ) → ℕ
row_end_of mask slot = cond (is_set mask slot) (lowest ((2 ^ 64 - 1) - mask) slot) (lowest mask slot)

module _ (h : AdaptiveReceiverPacketWindow) (ss pages blocks : List ℕ) where
  -- its page is reachable, and holds it in one of the cells that it may use
  unfoldable pub seen_live : ℕ → Bool
  seen_live s =
      let g = position h.window_size s / 64 in
      let w = words_at pages g in
      reached_by h blocks g && holds_in (part_of g ss) w.filled (cells_for h.n w) s

  -- the sequence at distance d from first is not
  abbrev pub seen_lost : (first d : ℕ) → Bool
  seen_lost first d = not (seen_live (sequence_at_of first d))

  -- bit j of the mask: the sequence at position j of the row of s is
  abbrev pub MasksRow : (s mask : ℕ) → Type 0
  MasksRow s mask = (j : ℕ) → j < 64 → is_set mask j ≡ seen_live (64 * (s / 64) + j)

  -- the mask is that of the row of s, which is at distance d in its range, unless the range or the row begins there
  abbrev pub KnowsAt : (s d mask : ℕ) → Type 0
  KnowsAt s d mask = 0 < d → (s % 64 ≡ 0 → ⊥) → MasksRow s mask

  abbrev pub KnowsRow : (first d mask : ℕ) → Type 0
  KnowsRow first d mask = KnowsAt (sequence_at_of first d) d mask

  -- a stretch from distance d on
  pub record Stretches (first count d : ℕ) (r : Stretch) : Type 0 where
    pub some : 0 < r.length
    pub inside : d + r.length ≤ count
    pub alike : (j : ℕ) → d ≤ j → j < d + r.length → seen_lost first j ≡ r.lost
    pub knows : KnowsRow first (d + r.length) r.mask
