-- What the bits of a word are, and what each function of src/ gives. Words are numbers, bit 0 is the lowest.
-- Definitions only: they compute by sums, quotients and powers, never by a bitwise operation. Their laws are in BitLaws,
-- ChangeLaws, CountLaws, SpanLaws and LowestLaws; what stands above this crate cites those and opens nothing here. Assumes nothing.
use Rattle.std.specs.Prelude.{Bool, cond, ℕ, zero, suc, ◌+◌, ◌-◌, ◌*◌, ◌/◌, ◌%◌, ◌^◌, eqb}
use Rattle.words.specs.First.{first_from_of}

-- bit k of w: 1 if it is set, 0 if not
unfoldable pub bit_at : ℕ → ℕ → ℕ
bit_at w k = w / 2 ^ k % 2

-- whether bit k of w is set
abbrev pub is_set : ℕ → ℕ → Bool
is_set w k = eqb (bit_at w k) 1

-- w with bit k made b, which is 0 or 1, and every other bit as it was
unfoldable pub with_bit : ℕ → ℕ → ℕ → ℕ
with_bit w k b = w - bit_at w k * 2 ^ k + b * 2 ^ k

-- w with bit k set
abbrev pub set_bit : ℕ → ℕ → ℕ
set_bit w k = with_bit w k 1

-- w with bit k clear
abbrev pub clear_bit : ℕ → ℕ → ℕ
clear_bit w k = with_bit w k 0

-- how many of the lowest n bits of w are set
unfoldable pub count_below : ℕ → ℕ → ℕ
count_below zero w = 0
count_below (suc n) w = count_below n w + bit_at w n

-- how many bits of a word of 64 are set
abbrev pub count : ℕ → ℕ
count w = count_below 64 w

-- the bits from f up to t, t not among them
unfoldable pub span : ℕ → ℕ → ℕ
span f t = 2 ^ t - 2 ^ f

-- the word of 64 whose bit k is set just where P holds
unfoldable pub word_below : ℕ → (ℕ → Bool) → ℕ
word_below zero P = 0
word_below (suc n) P = word_below n P + cond (P n) (2 ^ n) 0

abbrev pub word_of : (ℕ → Bool) → ℕ
word_of P = word_below 64 P

-- the lowest set bit of w at or above k, of a word of 64; 64 if there is none
unfoldable pub lowest : ℕ → ℕ → ℕ
lowest w k = first_from_of (is_set w) (64 - k) k
