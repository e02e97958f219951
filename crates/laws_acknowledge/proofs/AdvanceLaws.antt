-- The advance: what it gives, that there is no other, and its steps; the point by it, and its distance from its base; two tables with
-- one point. Assumes nothing.
use mathlib.Core.Path.{◌≡◌, refl, sym, ap, ◌∙◌}
use mathlib.Core.Bool.{Bool, true, false, not}
use Prim.Native.Nat.{ℕ, suc, ◌-◌, ◌^◌, ◌≤◌, ◌<◌}
use native.Mathlib.Omega.{arith}
use native.Mathlib.Decide.{dec_le}
use borrow.Author.Tests.{not-true, not-false}
use Rattle.words.specs.First.{first_from_of}
use Rattle.words.proofs.FirstLaws.{first-is, first-eq, first-same}
use Rattle.window.specs.Memory.{capacity, position}
use Rattle.window.proofs.MemoryLaws.{position-lt}
use Rattle.model.specs.Table.{Table, fresh, finds, sequence_at_of, distance}
use Rattle.model.specs.Point.{is_live, reach, point_of}
use Rattle.laws_acknowledge.specs.Advance.{advance}
use Rattle.laws_acknowledge.proofs.DistanceLaws.{sequence-zero, sequence-lt, distance-at}

-- r is the first distance from d on, and below window_size, whose sequence is not live; window_size if there is none
pub record Reaches (size : ℕ) (t : Table) (base d r : ℕ) : Type 0 where
  pub from : d ≤ r
  pub top : r ≤ size
  pub missed : r < size → is_live size t (sequence_at_of base r) ≡ false
  pub live : (j : ℕ) → d ≤ j → j < r → is_live size t (sequence_at_of base j) ≡ true

module _ (size : ℕ) (t : Table) (base : ℕ) where
  -- the test of which the point is the first
  abbrev missing : ℕ → Bool
  missing d = not (is_live size t (sequence_at_of base d))

  -- what a caller reads off
  pub advance-is : (d : ℕ) → d ≤ size → Reaches size t base d (advance size t base d)
  unfolding advance
  advance-is d l =
      let i = first-is missing (size - d) d in
      let r = first_from_of missing (size - d) d in
      record {
        from = i.from;
        top = omega (arith, i.top);
        missed = λ h. not-true (is_live size t (sequence_at_of base r)) (i.held (omega arith));
        live = λ j a b. not-false (is_live size t (sequence_at_of base j)) (i.none j a b);
      }

  -- how a distance is shown to be the advance: there is no other
  pub advance-eq : (d r : ℕ) → Reaches size t base d r → advance size t base d ≡ r
  unfolding advance
  advance-eq d r a = sym (first-eq missing (size - d) d r (record {
    from = a.from;
    top = omega (arith, a.top, a.from);
    held = λ h. ap not (a.missed (omega (arith, a.top, a.from)));
    none = λ j l m. ap not (a.live j l m);
  }))

  -- the point's distance is the advance from the base
  pub reach-advance : reach size t base ≡ advance size t base 0
  unfolding reach advance
  reach-advance = let e : size ≡ size - 0 = omega arith in ap (λ (n : ℕ). first_from_of missing n 0) e

  -- the point is the advance from the base
  pub point-advance : point_of size t base ≡ sequence_at_of base (advance size t base 0)
  point-advance = ap (sequence_at_of base) reach-advance

  pub point-lt : point_of size t base < 2 ^ 31
  point-lt = sequence-lt base (reach size t base)

  pub reach-is : Reaches size t base 0 (reach size t base)
  reach-is = rw reach-advance (advance-is 0 (omega arith))

  pub reach-eq : (r : ℕ) → Reaches size t base 0 r → reach size t base ≡ r
  reach-eq r a = reach-advance ∙ advance-eq 0 r a

  -- and how a sequence is shown to be the point
  pub point-eq : (r : ℕ) → Reaches size t base 0 r → point_of size t base ≡ sequence_at_of base r
  point-eq r a = ap (sequence_at_of base) (reach-eq r a)

  -- the point is not live, unless it is base plus window_size
  pub point-missed : reach size t base < size → is_live size t (point_of size t base) ≡ false
  point-missed l = reach-is.missed l

  -- what is kept in the header tells the distance
  pub point-distance : size < 2 ^ 31 → base < 2 ^ 31 → distance base (point_of size t base) ≡ reach size t base
  point-distance h l = distance-at base (reach size t base) l (omega (arith, reach-is.top))

  -- ---- steps

  -- over live sequences
  pub advance-over : (d e : ℕ) → d ≤ e → e ≤ size → ((j : ℕ) → d ≤ j → j < e → is_live size t (sequence_at_of base j) ≡ true)
      → advance size t base d ≡ advance size t base e
  advance-over d e l h all =
      let i = advance-is e h in
      advance-eq d (advance size t base e) (record {
        from = omega (arith, i.from);
        top = i.top;
        missed = i.missed;
        live = λ j a b. elim (dec_le e j) [ yes y ↦ i.live j y b | no n ↦ all j a (omega arith) ];
      })

  pub advance-live : (d : ℕ) → d < size → is_live size t (sequence_at_of base d) ≡ true → advance size t base d ≡ advance size t base (suc d)
  advance-live d l q = advance-over d (suc d) (omega arith) l (λ j a b. let e : j ≡ d = omega arith in rw e q)

  -- it stops at the first that is not live
  pub advance-stop : (d : ℕ) → d ≤ size → (d < size → is_live size t (sequence_at_of base d) ≡ false) → advance size t base d ≡ d
  advance-stop d l q = advance-eq d d (record { from = omega arith; top = l; missed = q; live = λ j a b. absurd (omega arith) })

  -- and at window_size
  pub advance-end : advance size t base size ≡ size
  advance-end = advance-stop size (omega arith) (λ l. absurd (omega arith))

-- ---- two tables

-- with the same sequences live from distance d on: the same advance
pub advance-same : (size : ℕ) (t u : Table) (base d : ℕ)
    → ((j : ℕ) → d ≤ j → j < size → is_live size u (sequence_at_of base j) ≡ is_live size t (sequence_at_of base j))
    → advance size u base d ≡ advance size t base d
unfolding advance
advance-same size t u base d h = first-same (missing size u base) (missing size t base) (size - d) d (λ j l m. ap not (h j l (omega arith)))

-- with the same sequences live below window_size from the base: one point
pub point-same-from : (size : ℕ) (t u : Table) (base : ℕ)
    → ((j : ℕ) → j < size → is_live size u (sequence_at_of base j) ≡ is_live size t (sequence_at_of base j)) → point_of size u base ≡ point_of size t base
point-same-from size t u base h =
    point-advance size u base ∙ ap (sequence_at_of base) (advance-same size t u base 0 (λ j l m. h j m)) ∙ sym (point-advance size t base)

-- so where the same sequences below 2 ^ 31 are live
pub point-same : (size : ℕ) (t u : Table) (base : ℕ) → ((q : ℕ) → q < 2 ^ 31 → is_live size u q ≡ is_live size t q) → point_of size u base ≡ point_of size t base
point-same size t u base h = point-same-from size t u base (λ j l. h (sequence_at_of base j) (sequence-lt base j))

-- and where the same stands at every position
pub point-alike : (size : ℕ) (t u : Table) (base : ℕ) → ((p : ℕ) → p < capacity size → u p ≡ t p) → point_of size u base ≡ point_of size t base
point-alike size t u base h = point-same size t u base (λ q l. ap (finds q) (h (position size q) (position-lt size q)))

-- nothing is live in a fresh table, and after a clear: the point is the base
pub point-fresh : (size base : ℕ) → base < 2 ^ 31 → point_of size fresh base ≡ base
point-fresh size base l =
    point-eq size fresh base 0 (record { from = omega arith; top = omega arith; missed = λ h. refl; live = λ j a b. absurd (omega arith) })
    ∙ sequence-zero base l
