-- The point after each call, by the tests of the code. Assumes nothing.
use Rattle.std.proofs.Common.{◌≡◌, ℕ, ◌+◌, ◌-◌, ◌%◌, ◌<◌, ◌≤◌, true, false, ◌&&◌, eqb, ltb, leb, sym, ◌∙◌, true≢false, arith, ltb-true, le-ltb, lt-ltb, eq-eqb, ne_eqb, le-leb, leb-true}
use native.Mathlib.Decide.{ℕ_discrete, dec_le}
use borrow.Author.Tests.{lt-leb}
use Rattle.words.proofs.CaseLaws.{bool, both}
use Rattle.model.specs.Table.{Table, sequence_at_of, distance}
use Rattle.laws_acknowledge.specs.Advance.{advance}
use Rattle.laws_acknowledge.specs.Increments.{after_insert_of, after_remove_of, least_covered, after_range_of, after_set_base}
use Rattle.acknowledge.specs.Promises.{point_stays_of, advance_from_of}

-- ---- insert; `far` is the point's distance

module _ (size : ℕ) (t : Table) (base point s far : ℕ) (e : far ≡ distance base point) where
  pub insert-other : (s ≡ point → ⊥) → point ≡ after_insert_of size t base point s true
  insert-other n = rw (ne_eqb s point n)

  pub insert-full : size ≤ far → point ≡ after_insert_of size t base point s true
  insert-full l = bool (eqb s point) (λ i. rw (i, ← e, le-ltb far size l)) (λ i. rw i)

  pub insert-on : s ≡ point → far < size → sequence_at_of base (advance size t base (far + 1)) ≡ after_insert_of size t base point s true
  insert-on q l = rw (eq-eqb s point q, ← e, lt-ltb far size l)

-- ---- remove; `near` is the sequence's distance

module _ (base point s near far : ℕ) (d : near ≡ distance base s) (e : far ≡ distance base point) where
  pub remove-before : near < far → s ≡ after_remove_of base point s true
  remove-before l = rw (← d, ← e, lt-ltb near far l)

  pub remove-after : far ≤ near → point ≡ after_remove_of base point s true
  remove-after l = rw (← d, ← e, le-ltb near far l)

-- ---- remove_range

module _ (cap start count base point least far : ℕ) (d : least ≡ least_covered cap start count (base % cap)) (e : far ≡ distance base point) where
  pub range-before : least < far → sequence_at_of base least ≡ after_range_of cap start count base point
  range-before l = rw (← d, ← e, lt-ltb least far l)

  pub range-after : far ≤ least → point ≡ after_range_of cap start count base point
  range-after l = rw (← d, ← e, le-ltb least far l)

-- ---- the base set to s

module _ (size : ℕ) (t : Table) (base point s near far : ℕ) (d : near ≡ distance base s) (e : far ≡ distance base point) where
  set_past : far < near → sequence_at_of s (advance size t s 0) ≡ after_set_base size t base point s
  set_past l = rw (← d, ← e, lt-leb near far l)

  set-no-point : near ≤ far → size < far → sequence_at_of s (advance size t s 0) ≡ after_set_base size t base point s
  set-no-point l h = rw (← d, ← e, le-leb near far l, lt-leb far size h)

  set_on : near ≤ far → far ≤ size → size ≤ far → sequence_at_of s (advance size t s (size - near)) ≡ after_set_base size t base point s
  set_on l h k = rw (← d, ← e, le-leb near far l, le-leb far size h, le-ltb far size k)

  -- where it stays, and where it is looked for
  pub set-kept : point_stays_of size far near ≡ true → point ≡ after_set_base size t base point s
  set-kept y =
      let b = both (leb near far) (ltb far size) y in
      let l = leb-true near far b.0 in
      let h = ltb-true far size b.1 in
      rw (← d, ← e, le-leb near far l, le-leb far size (omega arith), lt-ltb far size h)

  pub set-from : point_stays_of size far near ≡ false → sequence_at_of s (advance size t s (advance_from_of size far near)) ≡ after_set_base size t base point s
  set-from n = elim (dec_le near far) [
    | yes l ↦ elim (ℕ_discrete far size) [
      | yes q ↦ rw (le-leb near far l, eq-eqb far size q) (set_on l (omega arith) (omega arith))
      | no q ↦ rw (le-leb near far l, ne_eqb far size q) (set-no-point l (past l q))
    ]
    | no l ↦ rw (lt-leb near far (omega arith)) (set_past (omega arith))
  ]
    where
      past : near ≤ far → (far ≡ size → ⊥) → size < far
      past l q = elim (dec_le size far) [
        | yes h ↦ omega arith
        | no h ↦ absurd (true≢false (sym (stays l (omega arith)) ∙ n))
      ]
        where
          stays : near ≤ far → far < size → point_stays_of size far near ≡ true
          stays l h = rw (le-leb near far l, lt-ltb far size h)

-- and it begins inside the window
pub advance-from-le : (size reach d : ℕ) → advance_from_of size reach d ≤ size
advance-from-le size reach d = bool (leb d reach && eqb reach size) (λ e. rw e (omega arith)) (λ e. rw e (omega arith))
