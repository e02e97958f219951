-- remove_range: the least distance from the base whose position is emptied, and the point after it. Assumes nothing.
use mathlib.Core.Path.{◌≡◌, sym, ap, ◌∙◌}
use mathlib.Core.Bool.{true, false, cond, or-true, true≢false}
use Prim.Native.Nat.{ℕ, ◌+◌, ◌-◌, ◌%◌, ◌^◌, ◌≤◌, ◌<◌}
use native.Mathlib.Omega.{arith}
use native.Mathlib.Nat.{mod-eq_of_lt, add-mod_left, add-mod_right, add-mod-mod}
use native.Mathlib.Decide.{dec_le}
use lib.Dec.{ltb}
use borrow.Author.Tests.{ltb-true, ltb-false}
use Rattle.words.proofs.CaseLaws.{bool}
use Rattle.window.specs.Memory.{capacity}
use Rattle.window.proofs.MemoryLaws.{position-lt, size-le}
use Rattle.model.specs.Table.{Table, sequence_at_of, within, covers, empty_range}
use Rattle.model.specs.Point.{is_live, reach, point_of}
use Rattle.model.proofs.SweepLaws.{within-yes, within-below, within-above}
use Rattle.laws_acknowledge.specs.Increments.{least_covered, after_range_of}
use Rattle.laws_acknowledge.proofs.DistanceLaws.{position_at, round-below, round-above}
use Rattle.laws_acknowledge.proofs.AdvanceLaws.{reach-is, point-eq, point-distance}
use Rattle.laws_acknowledge.proofs.LiveLaws.{range-covered, range_other, range-drops}

-- ---- the positions of a range

module _ (cap start count : ℕ) (low : start < cap) (some : 1 ≤ count) where
  covers-once : (q : ℕ) → start ≤ q → q < start + count → covers cap start count q ≡ true
  covers-once q l h = rw (within-yes start (start + count) q l h)

  covers-round : (q : ℕ) → q + cap < start + count → covers cap start count q ≡ true
  covers-round q h = rw (within-yes start (start + count) (q + cap) (omega arith) h) (or-true (within start (start + count) q))

  covers-no-low : (q : ℕ) → q < start → start + count ≤ q + cap → covers cap start count q ≡ false
  covers-no-low q l h = rw (within-below start (start + count) q l, within-above start (start + count) (q + cap) h)

  covers-no-high : (q : ℕ) → start + count ≤ q → covers cap start count q ≡ false
  covers-no-high q h = rw (within-above start (start + count) q h, within-above start (start + count) (q + cap) (omega arith))

  -- what it says of a position that it is not covered
  out-high : (q : ℕ) → covers cap start count q ≡ false → start ≤ q → start + count ≤ q
  out-high q n l = elim (dec_le (start + count) q) [ yes y ↦ y | no h ↦ absurd (true≢false (sym (covers-once q l (omega arith)) ∙ n)) ]

  out-round : (q : ℕ) → covers cap start count q ≡ false → start + count ≤ q + cap
  out-round q n = elim (dec_le (start + count) (q + cap)) [ yes y ↦ y | no h ↦ absurd (true≢false (sym (covers-round q (omega arith)) ∙ n)) ]

  module _ (b : ℕ) (inside : b < cap) where
    -- the distance of the range's start, where the base's own position is not covered
    start_up : b ≤ start → (start + cap - b) % cap ≡ start - b
    start_up l =
        let e : start + cap - b ≡ cap + (start - b) = omega arith in
        ap (λ (x : ℕ). x % cap) e ∙ add-mod_left cap (start - b) ∙ mod-eq_of_lt (omega arith)

    start-round : start < b → (start + cap - b) % cap ≡ start + cap - b
    start-round l = mod-eq_of_lt (omega arith)

    -- no position before the least covered distance is in the range
    pub least_first : (j : ℕ) → j < least_covered cap start count b → j < cap → covers cap start count ((b + j) % cap) ≡ false
    least_first j l h = bool (covers cap start count b)
        (λ i. let z = rw i at l in absurd (omega (arith, z)))
        (λ i. let z : j < (start + cap - b) % cap = rw i at l in
        let far = out-round b i in
        elim (dec_le b start) [
          | yes y ↦
              let u = start_up y in
              rw (round-below cap b j (omega arith)) (covers-no-low (b + j) (omega arith) (omega arith))
          | no n ↦
              let u = start-round (omega arith) in
              let high = out-high b i (omega arith) in
              elim (dec_le cap (b + j)) [
                | yes m ↦ rw (round-above cap b j inside h m) (covers-no-low (b + j - cap) (omega arith) (omega arith))
                | no m ↦ rw (round-below cap b j (omega arith)) (covers-no-high (b + j) (omega arith))
              ]
        ])

    -- and the one at that distance is
    pub least-covered : covers cap start count ((b + least_covered cap start count b) % cap) ≡ true
    least-covered = bool (covers cap start count b)
        (λ i. rw i (let e : b + 0 ≡ b = omega arith in ap (λ (x : ℕ). covers cap start count (x % cap)) e ∙ ap (covers cap start count) (mod-eq_of_lt inside) ∙ i))
        (λ i. rw i (ap (covers cap start count) at-start ∙ covers-once start (omega arith) (omega arith)))
      where
        at-start : (b + (start + cap - b) % cap) % cap ≡ start
        at-start =
            let e : b + (start + cap - b) ≡ start + cap = omega arith in
            add-mod-mod b (start + cap - b) cap ∙ ap (λ (x : ℕ). x % cap) e ∙ add-mod_right start cap ∙ mod-eq_of_lt low

    -- by one subtraction and one comparison
    pub least-code : least_covered cap start count b ≡ (let off = (start + cap - b) % cap in cond (ltb cap (off + count)) 0 off)
    least-code =
        let off = (start + cap - b) % cap in
        elim (dec_le b start) [
          | yes y ↦
              let u = start_up y in
              bool (ltb cap (off + count))
              (λ l. rw (l, covers-round b (omega (arith, ltb-true cap (off + count) l))))
              (λ l. let m = ltb-false cap (off + count) l in
              rw l (elim (dec_le start b) [
                | yes z ↦ rw (covers-once b z (omega arith)) (omega arith)
                | no z ↦ rw (covers-no-low b (omega arith) (omega arith))
              ]))
          | no y ↦
              let u = start-round (omega arith) in
              bool (ltb cap (off + count))
              (λ l. rw (l, covers-once b (omega arith) (omega (arith, ltb-true cap (off + count) l))))
              (λ l. rw (l, covers-no-high b (omega (arith, ltb-false cap (off + count) l))))
        ]

-- ---- the point

module _ (size : ℕ) (t : Table) (base start count : ℕ) (fits : size ≤ 65536) (low : base < 2 ^ 31) (starts : start < capacity size) (some : 1 ≤ count) where
  abbrev cap : ℕ
  cap = capacity size

  abbrev least : ℕ
  least = least_covered cap start count (base % cap)

  abbrev u : Table
  u = empty_range cap start count t

  -- a distance before the least covered one
  before : (j : ℕ) → j < least → j < size → is_live size u (sequence_at_of base j) ≡ is_live size t (sequence_at_of base j)
  before j l h =
      range_other size t cap start count (sequence_at_of base j)
      (ap (covers cap start count) (position_at size base j)
      ∙ least_first cap start count starts some (base % cap) (position-lt size base) j l (omega (arith, size-le size fits)))

  -- remove_range: the point after it
  pub point-range : point_of size u base ≡ after_range_of cap start count base (point_of size t base)
  point-range =
      let far = point-distance size t base (omega arith) low in
      let r = reach size t base in
      let i = reach-is size t base in
      rw far (bool (ltb least r)
      (λ l. let less = ltb-true least r l in
      rw l (point-eq size u base least (record {
        from = omega arith;
        top = omega (arith, i.top);
        missed = λ m. range-covered size t cap start count (sequence_at_of base least)
            (ap (covers cap start count) (position_at size base least) ∙ least-covered cap start count starts some (base % cap) (position-lt size base));
        live = λ j a b. before j b (omega (arith, i.top)) ∙ i.live j a (omega arith);
      })))
      (λ l. let more = ltb-false least r l in
      rw l (point-eq size u base r (record {
        from = i.from;
        top = i.top;
        missed = λ m. range-drops size t cap start count (sequence_at_of base r) (i.missed m);
        live = λ j a b. before j (omega arith) (omega (arith, i.top)) ∙ i.live j a b;
      }))))
