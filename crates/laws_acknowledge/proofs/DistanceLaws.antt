-- Distances from a base, and the positions of the sequences there: positions of consecutive sequences are consecutive round the
-- capacity, also where the sequences wrap, since the capacity divides 2 ^ 31. Assumes nothing.
use mathlib.Core.Path.{◌≡◌, sym, ap, ◌∙◌}
use Prim.Native.Nat.{ℕ, ◌+◌, ◌-◌, ◌%◌, ◌^◌, ◌≤◌, ◌<◌}
use native.Mathlib.Omega.{arith}
use native.Mathlib.Nat.{mod-lt, mod-eq_of_lt, mod-add-mod, mod-eq-sub-mod}
use lib.Pow.{mod-mod-pow}
use lib.Bits.{bit_and, and_mask}
use Rattle.window.specs.Memory.{capacity, position}
use Rattle.window.proofs.MemoryLaws.{capacity-power}
use Rattle.model.specs.Table.{sequence_at_of, distance}

-- ---- distances

pub sequence-lt : (base d : ℕ) → sequence_at_of base d < 2 ^ 31
sequence-lt base d = mod-lt (base + d) {m = 2 ^ 31} (omega arith)

pub sequence-zero : (base : ℕ) → base < 2 ^ 31 → sequence_at_of base 0 ≡ base
sequence-zero base l = omega arith

-- a distance further on
pub sequence-on : (base d e : ℕ) → sequence_at_of (sequence_at_of base d) e ≡ sequence_at_of base (d + e)
sequence-on base d e = omega arith

pub distance-lt : (base s : ℕ) → distance base s < 2 ^ 31
unfolding distance
distance-lt base s = mod-lt ((s + 2 ^ 32 - base) % 2 ^ 32) {m = 2 ^ 31} (omega arith)

-- 2 ^ 31 divides 2 ^ 32
distance-lowest : (base s : ℕ) → distance base s ≡ (s + 2 ^ 32 - base) % 2 ^ 31
unfolding distance
distance-lowest base s = mod-mod-pow (s + 2 ^ 32 - base) 1 31

pub distance-at : (base d : ℕ) → base < 2 ^ 31 → d < 2 ^ 31 → distance base (sequence_at_of base d) ≡ d
unfolding distance
distance-at base d l h = omega arith

-- the sequence at a sequence's distance is that sequence but for its top bit
pub at-distance : (base s : ℕ) → base < 2 ^ 31 → sequence_at_of base (distance base s) ≡ s % 2 ^ 31
at-distance base s l = rw (distance-lowest base s) (omega arith)

pub at-distance-own : (base s : ℕ) → base < 2 ^ 31 → s < 2 ^ 31 → sequence_at_of base (distance base s) ≡ s
at-distance-own base s l h = at-distance base s l ∙ mod-eq_of_lt h

-- no two distances have one sequence
pub sequence-same : (base d e : ℕ) → d < 2 ^ 31 → e < 2 ^ 31 → sequence_at_of base d ≡ sequence_at_of base e → d ≡ e
sequence-same base d e l h q = omega arith

-- ---- positions

-- the capacity divides 2 ^ 31
pub position-wraps : (size s : ℕ) → position size (s % 2 ^ 31) ≡ position size s
position-wraps size s =
    let p = capacity-power size in
    let e = p.0 in
    let k : 31 ≡ (31 - e) + e = omega (arith, p.2) in
    rw p.3 (ap (λ (x : ℕ). s % 2 ^ x % 2 ^ e) k ∙ mod-mod-pow s (31 - e) e)

pub position_at : (size base d : ℕ) → position size (sequence_at_of base d) ≡ (base % capacity size + d) % capacity size
position_at size base d = position-wraps size (base + d) ∙ sym (mod-add-mod base (capacity size) d)

-- a position and a distance below the capacity: at most once round
pub round-below : (cap b d : ℕ) → b + d < cap → (b + d) % cap ≡ b + d
round-below cap b d l = mod-eq_of_lt l

pub round-above : (cap b d : ℕ) → b < cap → d < cap → cap ≤ b + d → (b + d) % cap ≡ b + d - cap
round-above cap b d l h m = mod-eq-sub-mod m ∙ mod-eq_of_lt (omega arith)

-- ---- what the code computes, with 32-bit words

-- `(base + d) & (2^31 - 1)`, a sum that does not wrap
pub sequence-code : (base d : ℕ) → bit_and (base + d) (2 ^ 31 - 1) ≡ sequence_at_of base d
sequence-code base d = and_mask (base + d) 31

-- `wrapping_sub(s, base) & (2^31 - 1)`
pub distance-code : (base s : ℕ) → bit_and ((s + 2 ^ 32 - base) % 2 ^ 32) (2 ^ 31 - 1) ≡ distance base s
unfolding distance
distance-code base s = and_mask ((s + 2 ^ 32 - base) % 2 ^ 32) 31
