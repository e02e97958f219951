-- The base moved: set to any sequence, and on by one when the front value is taken. The sequences from the new base up to the old point
-- were live before and are so now. Assumes nothing.
use mathlib.Core.Path.{◌≡◌, sym, ap, ◌∙◌}
use mathlib.Core.Bool.{true}
use Prim.Native.Nat.{ℕ, ◌+◌, ◌-◌, ◌^◌, ◌≤◌, ◌<◌}
use native.Mathlib.Omega.{arith}
use lib.Dec.{ltb}
use borrow.Author.Tests.{ltb-true, ltb-false, leb-true}
use Rattle.words.proofs.CaseLaws.{bool, both}
use Rattle.model.specs.Table.{Table, sequence_at_of, distance}
use Rattle.model.specs.Point.{is_live, reach, point_of}
use Rattle.laws_acknowledge.specs.Advance.{advance}
use Rattle.laws_acknowledge.specs.Increments.{removed, up_to_point, after_set_base}
use Rattle.laws_acknowledge.proofs.DistanceLaws.{sequence-zero, sequence-lt, sequence-on, sequence-same, at-distance-own}
use Rattle.laws_acknowledge.proofs.AdvanceLaws.{reach-is, advance-over, advance-same, point-advance, point-eq, point-missed, point-distance, point-same-from}
use Rattle.laws_acknowledge.proofs.LiveLaws.{remove-other}

-- ---- the base set

-- the test of a new base: it is no further than the point
up-to-if : (size base point s : ℕ) → up_to_point size base point s ≡ true → distance base s ≤ distance base point
up-to-if size base point s m = leb-true _ _ (both _ _ m).0

module _ (size : ℕ) (t : Table) (base s : ℕ) (size_fits : size ≤ 65536) (base-fits : base < 2 ^ 31) (fits : s < 2 ^ 31) where
  abbrev d : ℕ
  d = distance base s

  abbrev q : ℕ
  q = reach size t base

  -- the sequences from s on
  from-new : (j : ℕ) → sequence_at_of s j ≡ sequence_at_of base (d + j)
  from-new j = ap (λ (x : ℕ). sequence_at_of x j) (sym (at-distance-own base s base-fits fits)) ∙ sequence-on base d j

  point-from-new : d ≤ q → sequence_at_of s (q - d) ≡ point_of size t base
  point-from-new l = from-new (q - d) ∙ (let e : d + (q - d) ≡ q = omega arith in ap (sequence_at_of base) e)

  live-from-new : d ≤ q → (j : ℕ) → j < q - d → is_live size t (sequence_at_of s j) ≡ true
  live-from-new l j h = ap (is_live size t) (from-new j) ∙ (reach-is size t base).live (d + j) (omega arith) (omega arith)

  -- in base .. point, and the point is not base plus window_size: it stays
  base_kept : d ≤ q → q < size → point_of size t s ≡ point_of size t base
  base_kept l h =
      point-eq size t s (q - d) (record {
        from = omega arith;
        top = omega arith;
        missed = λ m. ap (is_live size t) (point-from-new l) ∙ point-missed size t base h;
        live = λ j a b. live-from-new l j b;
      }) ∙ point-from-new l

  -- in base .. point, and the point is base plus window_size: all before it are known to be live
  base_on : d ≤ q → q ≡ size → point_of size t s ≡ sequence_at_of s (advance size t s (size - d))
  base_on l e =
      point-advance size t s
      ∙ ap (sequence_at_of s) (advance-over size t s 0 (size - d) (omega arith) (omega arith) (λ j a b. live-from-new l j (omega arith)))

  -- all of it
  pub point-base : point_of size t s ≡ after_set_base size t base (point_of size t base) s
  point-base =
      let far = point-distance size t base (omega arith) base-fits in
      let top = (reach-is size t base).top in
      bool (up_to_point size base (point_of size t base) s)
      (λ m.
      let near : d ≤ q = omega (arith, far, up-to-if size base (point_of size t base) s m) in
      rw m (bool (ltb (distance base (point_of size t base)) size)
      (λ h. rw h (base_kept near (omega (arith, far, ltb-true (distance base (point_of size t base)) size h))))
      (λ h. rw h (base_on near (omega (arith, far, ltb-false (distance base (point_of size t base)) size h))))))
      (λ m. rw m (point-advance size t s))

-- ---- the front taken

module _ (size : ℕ) (t : Table) (base : ℕ) (size_fits : size ≤ 65536) (base-fits : base < 2 ^ 31) where
  abbrev next : ℕ
  next = sequence_at_of base 1

  -- the sequences after the base are as they were, also where window_size is the capacity and the last has the base's position
  after_front : (j : ℕ) → j < size → is_live size (removed size t base) (sequence_at_of next j) ≡ is_live size t (sequence_at_of next j)
  after_front j l =
      remove-other size t base (sequence_at_of next j)
      (λ e. let z = sequence-same base 0 (1 + j) (omega arith) (omega arith) (sequence-zero base base-fits ∙ e ∙ sequence-on base 1 j) in omega arith)

  -- for the next base the removed value does not count
  pub point-front-before : point_of size (removed size t base) next ≡ point_of size t next
  point-front-before = point-same-from size t (removed size t base) next after_front

  -- so the point after it is that of the base set, from the point before it
  pub point-front : point_of size (removed size t base) next ≡ after_set_base size (removed size t base) base (point_of size t base) next
  point-front =
      let same : (e : ℕ) → advance size (removed size t base) next e ≡ advance size t next e =
      λ e. advance-same size t (removed size t base) next e (λ j a b. after_front j b) in
      point-front-before ∙ point-base size t base next size_fits base-fits (sequence-lt base 1)
      ∙ sym (rw (same (size - distance base next), same 0))
