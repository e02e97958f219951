-- What the functions that put a line leave: the line if there is a place for it, and all as it was if not. Definitions only.
-- Assumes nothing.
use Rattle.std.specs.Prelude.{◌≡◌, ℕ, ◌+◌, ◌*◌, Bool, true, false, ◌&&◌, List, nat_le}
use Rattle.line_text.specs.PrintContracts.{Puts}

-- a line with `count` items of a list has a place from `at` on in a buffer: 128 bytes, and `each` an item; no list has more than 4096
unfoldable pub room_for : ℕ → ℕ → ℕ → ℕ → ℕ → Bool
room_for buffer at list count each = nat_le count 4096 && (nat_le count list && nat_le (at + (128 + each * count)) buffer)

-- the same for pairs of two lists
abbrev pub pairs_room : ℕ → ℕ → ℕ → ℕ → ℕ → Bool
pairs_room buffer at sequences values count = room_for buffer at sequences count 42 && nat_le count values

pub record PutsIf (room : Bool) (at : ℕ) (bytes : List ℕ) (out : List ℕ) (r : ℕ) (out' : List ℕ) : Type 0 where
  pub puts : room ≡ true → Puts at bytes out r out'
  pub end : room ≡ false → r ≡ at
  pub stays : room ≡ false → out' ≡ out
