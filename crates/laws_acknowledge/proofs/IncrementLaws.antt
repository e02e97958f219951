-- insert, exchange, remove: the point after each is the increment of the point before it. Assumes nothing.
use mathlib.Core.Path.{◌≡◌, refl, sym, ap, ◌∙◌}
use mathlib.Core.Bool.{Bool, true, false, not, true≢false}
use Prim.Native.Nat.{ℕ, suc, ◌+◌, ◌^◌, ◌≤◌, ◌<◌}
use native.Mathlib.Omega.{arith}
use native.Mathlib.Decide.{ℕ_discrete}
use lib.Dec.{ltb}
use borrow.Author.Tests.{eqb-true, eq-eqb, ltb-true, ltb-false, lt-ltb, not-true}
use Rattle.words.proofs.CaseLaws.{bool, both}
use Rattle.window.specs.Memory.{position}
use Rattle.model.specs.Calls.{insert, exchange, remove}
use Rattle.model.specs.Table.{Table, holds, finds, sequence_at_of, TableState, table_does, distance}
use Rattle.model.specs.Point.{is_live, reach, point_of}
use Rattle.laws_acknowledge.specs.Advance.{advance}
use Rattle.laws_acknowledge.specs.Increments.{inserted, exchanged, removed, moves_point, after_insert_of, after_remove_of}
use Rattle.laws_acknowledge.proofs.DistanceLaws.{sequence-same, distance-at, at-distance, position-wraps}
use Rattle.laws_acknowledge.proofs.AdvanceLaws.{advance-over, reach-is, point-advance, point-eq, point-missed, point-distance, point-same}
use Rattle.laws_acknowledge.proofs.LiveLaws.{finds-once, insert-other, insert-own, insert-keeps, exchange-live, remove-other, remove-own, remove-drops}

-- ---- the tables are those of the plain table's calls

pub insert-table : (size : ℕ) (t : TableState) (s v : ℕ) (listed : Bool) → (table_does size t (insert s v listed)).after.pairs ≡ inserted size t.pairs s v
unfolding table_does
insert-table size t s v listed = refl

pub exchange-table : (size : ℕ) (t : TableState) (s v : ℕ) → (table_does size t (exchange s v)).after.pairs ≡ exchanged size t.pairs s v
unfolding table_does
exchange-table size t s v = refl

pub remove-table : (size : ℕ) (t : TableState) (s : ℕ) → (table_does size t (remove s)).after.pairs ≡ removed size t.pairs s
unfolding table_does
remove-table size t s = refl

-- ---- exchange

-- the point stays
pub point-exchange : (size : ℕ) (t : Table) (base s v : ℕ) → point_of size (exchanged size t s v) base ≡ point_of size t base
point-exchange size t base s v = point-same size t (exchanged size t s v) base (λ q l. exchange-live size t s v q)

-- ---- insert

-- the test of an insert: it is new, at the point, and the point is below window_size from the base
moves-if : (size base point s : ℕ) (new : Bool) → moves_point size base point s new ≡ true → (new ≡ true) × (s ≡ point) × (distance base point < size)
moves-if size base point s new m =
    let a = both _ _ m in
    let b = both _ _ a.1 in
    (a.0, eqb-true _ _ b.0, ltb-true _ _ b.1)

if-moves : (size base point s : ℕ) (new : Bool) → new ≡ true → s ≡ point → distance base point < size → moves_point size base point s new ≡ true
if-moves size base point s new n e l = rw (n, eq-eqb s point e, lt-ltb (distance base point) size l)

module _ (size : ℕ) (t : Table) (base s v : ℕ) where
  abbrev u : Table
  u = inserted size t s v

  abbrev r : ℕ
  r = reach size t base

  abbrev point : ℕ
  point = point_of size t base

  -- the point stays, where it is not live after
  insert-stays : (r < size → is_live size u point ≡ false) → point_of size u base ≡ point
  insert-stays m =
      let i = reach-is size t base in
      point-eq size u base r (record {
        from = i.from;
        top = i.top;
        missed = m;
        live = λ j a b. insert-keeps size t s v (sequence_at_of base j) (i.live j a b);
      })

  -- so it stays, unless s is new and the point: at the point an insert that is not new is refused, by another sequence at the position
  insert-misses : (holds (t (position size s)) ≡ false → s ≡ point → r < size → ⊥) → point_of size u base ≡ point
  insert-misses n = insert-stays (λ l. elim (ℕ_discrete s point) [
    | yes e ↦ bool (holds (t (position size s)))
        (λ h. rw (← e) (insert-own size t s v ∙ rw h (ap (is_live size t) e ∙ point-missed size t base l)))
        (λ h. absurd (n h e l))
    | no n ↦ insert-other size t s v point n ∙ point-missed size t base l
  ])

  -- new at the point: the advance from the next
  insert-at-point : holds (t (position size s)) ≡ false → s ≡ point → r < size → point_of size u base ≡ sequence_at_of base (advance size u base (suc r))
  insert-at-point h e l =
      let i = reach-is size t base in
      let own : is_live size u point ≡ true = ap (is_live size u) (sym e) ∙ insert-own size t s v ∙ rw h in
      point-advance size u base ∙ ap (sequence_at_of base) (advance-over size u base 0 (suc r) (omega arith) l
      (λ j a b. elim (ℕ_discrete j r) [ yes y ↦ rw y own | no n ↦ insert-keeps size t s v (sequence_at_of base j) (i.live j a (omega arith)) ]))

  -- all of it
  pub point-insert : size ≤ 65536 → base < 2 ^ 31 → point_of size u base ≡ after_insert_of size u base point s (not (holds (t (position size s))))
  point-insert fits low =
      let far = point-distance size t base (omega arith) low in
      let next : suc r ≡ distance base point + 1 = omega (arith, far) in
      let new = not (holds (t (position size s))) in
      bool (moves_point size base point s new)
      (λ m.
      let i = moves-if size base point s new m in
      rw m (insert-at-point (not-true (holds (t (position size s))) i.0) i.1 (omega (arith, far, i.2))
      ∙ ap (λ (x : ℕ). sequence_at_of base (advance size u base x)) next))
      (λ m. rw m (insert-misses (λ h e l. true≢false (sym (if-moves size base point s new (rw h) e (omega (arith, far))) ∙ m))))

-- ---- remove

module _ (size : ℕ) (t : Table) (base s : ℕ) (fits : size ≤ 65536) (low : base < 2 ^ 31) where
  abbrev left : Table
  left = removed size t s

  abbrev d : ℕ
  d = distance base s

  -- the point stays, where s is none of the live sequences before it
  remove-stays : ((j : ℕ) → j < reach size t base → s ≡ sequence_at_of base j → ⊥) → point_of size left base ≡ point_of size t base
  remove-stays n =
      let i = reach-is size t base in
      point-eq size left base (reach size t base) (record {
        from = i.from;
        top = i.top;
        missed = λ l. remove-drops size t s (sequence_at_of base (reach size t base)) (i.missed l);
        live = λ j a b. remove-other size t s (sequence_at_of base j) (n j b) ∙ i.live j a b;
      })

  -- absent: nothing was there to take
  remove_absent : is_live size t s ≡ false → point_of size left base ≡ point_of size t base
  remove_absent f = remove-stays (λ j b e. true≢false (sym ((reach-is size t base).live j (omega arith) b) ∙ ap (is_live size t) (sym e) ∙ f))

  -- at the point or after it
  remove-after : reach size t base ≤ d → point_of size left base ≡ point_of size t base
  remove-after h = remove-stays (λ j b e. let z = distance-at base j low (omega (arith, (reach-is size t base).top)) in omega (arith, ap (distance base) e))

  -- a sequence that is found before the point has no top bit: at its position stands the one expected there
  found_before : is_live size t s ≡ true → d < reach size t base → sequence_at_of base d ≡ s
  found_before f l =
      let q = sequence_at_of base d in
      let p : position size q ≡ position size s = ap (position size) (at-distance base s low) ∙ position-wraps size s in
      finds-once q s (t (position size s)) (ap (λ (x : ℕ). finds q (t x)) (sym p) ∙ (reach-is size t base).live d (omega arith) l) f

  -- before the point: it becomes the point
  remove-before : is_live size t s ≡ true → d < reach size t base → point_of size left base ≡ s
  remove-before f l =
      let i = reach-is size t base in
      let own = found_before f l in
      point-eq size left base d (record {
        from = omega arith;
        top = omega (arith, i.top);
        missed = λ m. ap (is_live size left) own ∙ remove-own size t s;
        live = λ j a b. remove-other size t s (sequence_at_of base j)
            (λ e. let z = sequence-same base d j (omega (arith, i.top)) (omega (arith, i.top)) (own ∙ e) in omega arith)
            ∙ i.live j a (omega arith);
      }) ∙ own

  -- all of it
  pub point-remove : point_of size left base ≡ after_remove_of base (point_of size t base) s (is_live size t s)
  point-remove =
      let far = point-distance size t base (omega arith) low in
      bool (is_live size t s)
      (λ f. rw (f, far) (bool (ltb d (reach size t base))
      (λ l. rw l (remove-before f (ltb-true d (reach size t base) l)))
      (λ l. rw l (remove-after (ltb-false d (reach size t base) l)))))
      (λ f. rw f (remove_absent f))
