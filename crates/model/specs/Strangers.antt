-- What an answer of stranger says, whichever pair it gives. Document 01, 'Beside the port'. Statements only. Assumes nothing.
use Rattle.std.specs.Prelude.{◌≡◌, true, false, ◌⊎◌, ℕ, ◌^◌, ◌≤◌, ◌<◌}
use Rattle.std.proofs.Math.Option.{some}
use Rattle.window.specs.Memory.{position}
use Rattle.model.specs.Calls.{Answer, absent, pair}
use Rattle.model.specs.Table.{pair_of, sequence_at_of, range_count_of, covers, is_stranger_of}
use Rattle.model.specs.Window.{Window, size_of, capacity_of, live_at}

-- position q is "a position of first..last", and the live pair there is a stranger
pub record StrangerAt (w : Window) (first last q : ℕ) : Type 0 where
  pub below : q < capacity_of w
  pub covered : covers (capacity_of w) (position (size_of w) first) (range_count_of first last) q ≡ true
  pub strange : is_stranger_of first (range_count_of first last) (live_at w q) ≡ true

pub record Tells (w : Window) (first last : ℕ) (a : Answer) : Type 0 where
  -- "some live pair"
  pub given : (s v n r : ℕ) → a ≡ pair s v n r → (q : ℕ) × StrangerAt w first last q × (live_at w q ≡ some (pair_of s v))
  -- "none exactly if there is none"
  pub none : a ≡ absent → (q : ℕ) → StrangerAt w first last q → ⊥
  pub either : (a ≡ absent) ⊎ ((s : ℕ) × (v : ℕ) × (a ≡ pair s v 0 0))

-- s is one of the `count` sequences from first on, in 31-bit circular order
abbrev pub OfRange : (first count s : ℕ) → Type 0
OfRange first count s = (d : ℕ) × (d < count) × (sequence_at_of first d ≡ s)

-- document 02, S-3, where the clause on the top bit goes: a live sequence that is no stranger is one of the range's, and none of these is
-- a stranger
pub record OwnOrStranger (w : Window) : Type 0 where
  pub own : (first count q s v : ℕ) → first < 2 ^ 31 → q < capacity_of w → live_at w q ≡ some (pair_of s v)
      → is_stranger_of first count (some (pair_of s v)) ≡ false → OfRange first count s
  pub no_stranger : (first count s v : ℕ) → first < 2 ^ 31 → count ≤ 2 ^ 31 → OfRange first count s → is_stranger_of first count (some (pair_of s v)) ≡ false
