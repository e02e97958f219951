-- Whether a range of positions covers the base's, and how far its first position is from the base, by differences of sequences modulo
-- 2 ^ 32. Assumes nothing.
use Rattle.std.proofs.Common.{◌≡◌, ℕ, ◌+◌, ◌-◌, ◌%◌, ◌^◌, ◌<◌, ◌≤◌, ltb, sym, ap, ◌∙◌, mod-eq_of_lt, arith, le-ltb, lt-ltb}
use mathlib.Core.Bool.{or-true}
use native.Mathlib.Nat.{add-mod, add-mod_right}
use native.Mathlib.Decide.{dec_le, dec_lt}
use Rattle.window.specs.Memory.{capacity, position}
use Rattle.window.proofs.MemoryLaws.{position-lt}
use Rattle.model.specs.Table.{within, covers}
use Rattle.model.proofs.SweepLaws.{within-yes, within-below, within-above}
use Rattle.call_base.proofs.FitLaws.{low-position}
use Rattle.laws_acknowledge.specs.Increments.{least_covered}
use Rattle.laws_acknowledge.proofs.DistanceLaws.{round-below, round-above}

-- ---- positions round a capacity: x is how far z is from y

module _ (cap x y z : ℕ) (low : x < cap) (under : y < cap) (e : (x + y) % cap ≡ z) where
  up : y ≤ z → x ≡ z - y
  up l = elim (dec_le cap (x + y)) [
    | yes h ↦ absurd (omega (arith, round-above cap x y low under h))
    | no h ↦ omega (arith, round-below cap x y (omega arith))
  ]

  round : z < y → x ≡ z + cap - y
  round l = elim (dec_le cap (x + y)) [
    | yes h ↦ omega (arith, round-above cap x y low under h)
    | no h ↦ absurd (omega (arith, round-below cap x y (omega arith)))
  ]

  -- by one remainder
  apart : x ≡ (z + cap - y) % cap
  apart = elim (dec_le y z) [
    | yes l ↦
        let k : z + cap - y ≡ x + cap = omega (arith, up l) in
        sym (ap (λ (i : ℕ). i % cap) k ∙ add-mod_right x cap ∙ mod-eq_of_lt low)
    | no l ↦
        let k : z + cap - y ≡ x = omega (arith, round (omega arith)) in
        sym (ap (λ (i : ℕ). i % cap) k ∙ mod-eq_of_lt low)
  ]

  -- z is one of `count` positions from y on
  covered : (count : ℕ) → count ≤ cap → covers cap y count z ≡ ltb x count
  covered count few = elim (dec_le y z) [
    | yes l ↦
        let k = up l in
        elim (dec_lt x count) [
          | yes h ↦ rw (within-yes y (y + count) z l (omega arith), lt-ltb x count h)
          | no h ↦ rw (within-above y (y + count) z (omega arith), within-above y (y + count) (z + cap) (omega arith), le-ltb x count (omega arith))
        ]
    | no l ↦
        let k = round (omega arith) in
        elim (dec_lt x count) [
          | yes h ↦ rw (within-yes y (y + count) (z + cap) (omega arith) (omega arith), lt-ltb x count h) (or-true (within y (y + count) z))
          | no h ↦ rw (within-below y (y + count) z (omega arith), within-above y (y + count) (z + cap) (omega arith), le-ltb x count (omega arith))
        ]
  ]

-- ---- differences of sequences

-- d is how far a is from f, modulo 2 ^ 32
difference : (size d f a : ℕ) → (d + f) % 2 ^ 32 ≡ a → (position size d + position size f) % capacity size ≡ position size a
difference size d f a e = sym (add-mod d f (capacity size)) ∙ sym (low-position size (d + f) 32 (omega arith)) ∙ ap (position size) e

module _ (size base first count past : ℕ) (few : count ≤ capacity size) (e : (past + first) % 2 ^ 32 ≡ base) where
  covers-base : covers (capacity size) (position size first) count (position size base) ≡ ltb (position size past) count
  covers-base = covered (capacity size) (position size past) (position size first) (position size base) (position-lt size past) (position-lt size first) (difference size past first base e) count few

  -- the base's own position is covered
  pub least-own : position size past < count → 0 ≡ least_covered (capacity size) (position size first) count (base % capacity size)
  least-own l = rw (covers-base, lt-ltb (position size past) count l)

  -- else the range's first position is the nearest
  pub least_first : count ≤ position size past → (ahead : ℕ) → (ahead + base) % 2 ^ 32 ≡ first
      → position size ahead ≡ least_covered (capacity size) (position size first) count (base % capacity size)
  least_first l ahead f =
      rw (covers-base, le-ltb (position size past) count l)
      (apart (capacity size) (position size ahead) (position size base) (position size first) (position-lt size ahead) (position-lt size base) (difference size ahead base first f))
