-- Sequences in 31-bit circular order. Definitions only. Assumes nothing.
use Rattle.std.specs.Prelude.{ℕ, ◌+◌, ◌-◌, ◌%◌, ◌^◌}

-- "Sums with the base are modulo 2^31" (document 02, S-1): the sequence at distance d from the base
abbrev pub sequence_at_of : ℕ → ℕ → ℕ
sequence_at_of base d = (base + d) % 2 ^ 31

-- how far a sequence is from a base: a range's count less 1
unfoldable pub distance : ℕ → ℕ → ℕ
distance base s = (s + 2 ^ 32 - base) % 2 ^ 32 % 2 ^ 31
