-- The definitions at small words, by computation. Assumes nothing.
use mathlib.Core.Path.{◌≡◌, refl}
use Rattle.words.specs.First.{first_from_of}
use Rattle.words.specs.Word.{bit_at, with_bit, set_bit, clear_bit, count_below, count, span, lowest}

-- 10 is 1010 in binary
ten : (bit_at 10 0 ≡ 0) × (bit_at 10 1 ≡ 1) × (set_bit 10 0 ≡ 11) × (set_bit 10 1 ≡ 10) × (clear_bit 10 1 ≡ 8) × (clear_bit 10 2 ≡ 10) × (count 10 ≡ 2)
unfolding bit_at with_bit count_below
ten = (refl, refl, refl, refl, refl, refl, refl)

spans : (span 0 64 ≡ 18446744073709551615) × (span 3 6 ≡ 56) × (span 63 64 ≡ 9223372036854775808)
unfolding span
spans = (refl, refl, refl)

lowests : (lowest 10 0 ≡ 1) × (lowest 10 1 ≡ 1) × (lowest 10 2 ≡ 3) × (lowest 10 4 ≡ 64) × (lowest 9223372036854775808 0 ≡ 63)
unfolding lowest first_from_of bit_at
lowests = (refl, refl, refl, refl, refl)
