-- Laws of `sweep` and `sweep_range`: what is live after is what the plain table keeps, no position comes to hold both a live and a
-- retired pair, and what stood in the range is returned or retired. Assumes nothing.
use mathlib.Core.Path.{◌≡◌, sym, ap, ◌∙◌}
use mathlib.Core.Bool.{true, false}
use mathlib.Core.Option.{none}
use mathlib.Core.List.{◌++◌}
use Prim.Native.Nat.{ℕ, ◌+◌, ◌-◌, ◌*◌, ◌/◌, ◌≤◌, ◌<◌}
use native.Mathlib.Omega.{arith}
use native.Mathlib.Decide.{dec_le}
use lib.Dec.{leb, eqb}
use borrow.Author.Tests.{eqb-true, eqb-false, leb-true, leb-false, le-leb, lt-ltb, lt-leb, le-ltb}
use Rattle.words.proofs.CaseLaws.{bool}
use Rattle.model.specs.Table.{Table, held, within, covers, empty_range}
use Rattle.model.specs.Positions.{Drained, drain, wipe, moved, Swept, swept, sweep, sweep_range}
use Rattle.model.proofs.SumLaws.{case, sum-ext, sum-add, weigh, weight, total, total-append}
use Rattle.model.proofs.DrainLaws.{drain-keeps, drain-below, drain-above, drain-inside, drain-less}

-- ---- positions within two bounds

pub within-yes : (a e q : ℕ) → a ≤ q → q < e → within a e q ≡ true
within-yes a e q h k = rw (le-leb a q h, lt-ltb q e k)

pub within-below : (a e q : ℕ) → q < a → within a e q ≡ false
within-below a e q h = rw (lt-leb a q h)

pub within-above : (a e q : ℕ) → e ≤ q → within a e q ≡ false
within-above a e q h = bool (leb a q) (λ i. rw (i, le-ltb q e h)) (λ i. rw i)

pub wipe-in : (a e : ℕ) (t : Table) (q : ℕ) → a ≤ q → q < e → wipe a e t q ≡ none
wipe-in a e t q h k = rw (within-yes a e q h k)

pub wipe-below : (a e : ℕ) (t : Table) (q : ℕ) → q < a → wipe a e t q ≡ t q
wipe-below a e t q h = rw (within-below a e q h)

pub wipe-above : (a e : ℕ) (t : Table) (q : ℕ) → e ≤ q → wipe a e t q ≡ t q
wipe-above a e t q h = rw (within-above a e q h)

-- ---- what is wiped and moved is in one table or the other

pub moved_apart : (a e : ℕ) (t u : Table) (q : ℕ) → held (t q) + held (u q) ≤ 1 → held (wipe a e t q) + held (moved a e t u q) ≤ 1
moved_apart a e t u q h =
    bool (within a e q)
    (λ i. rw i (case (t q) (λ j. rw j (omega (arith, ap held j))) (λ x j. rw j (omega arith))))
    (λ i. rw i h)

moved-weigh : (g : ℕ → ℕ) (a e : ℕ) (t u : Table) (q : ℕ) → held (t q) + held (u q) ≤ 1
    → weigh g (wipe a e t q) + weigh g (moved a e t u q) ≡ weigh g (t q) + weigh g (u q)
moved-weigh g a e t u q h =
    bool (within a e q)
    (λ i. rw i (case (t q)
    (λ j. rw j (omega arith))
    (λ x j. case (u q) (λ d. rw (j, d) (omega arith)) (λ y d. absurd (omega (arith, ap held j, ap held d))))))
    (λ i. rw i (omega arith))

pub moved_keeps : (cap : ℕ) (g : ℕ → ℕ) (a e : ℕ) (t u : Table) → ((q : ℕ) → held (t q) + held (u q) ≤ 1)
    → weight cap g (wipe a e t) + weight cap g (moved a e t u) ≡ weight cap g t + weight cap g u
moved_keeps cap g a e t u h =
    sym (sum-add cap (λ (q : ℕ). weigh g (wipe a e t q)) (λ (q : ℕ). weigh g (moved a e t u q)))
    ∙ sum-ext cap (λ (q : ℕ). weigh g (wipe a e t q) + weigh g (moved a e t u q)) (λ (q : ℕ). weigh g (t q) + weigh g (u q))
    (λ q l. moved-weigh g a e t u q (h q))
    ∙ sum-add cap (λ (q : ℕ). weigh g (t q)) (λ (q : ℕ). weigh g (u q))

-- ---- one stretch

module _ (a e : ℕ) (t u : Table) (ae : a < e) where
  abbrev from : ℕ
  from = (a + 63) / 64 * 64

  abbrev to : ℕ
  to = e / 64 * 64

  abbrev head : Drained
  head = drain (from - a) a 64 t

  abbrev tail : Drained
  tail = drain (e - to) to 64 head.left

  one-page : eqb (a / 64) ((e - 1) / 64) ≡ true → sweep a e t u ≡ swept (drain (e - a) a 64 t).left u (drain (e - a) a 64 t).out
  unfolding sweep
  one-page i = rw i

  more-pages : eqb (a / 64) ((e - 1) / 64) ≡ false
      → sweep a e t u ≡ swept (wipe from to tail.left) (moved from to tail.left u) (head.out ++ tail.out)
  unfolding sweep
  more-pages i = rw i

  from-ge : a ≤ from
  from-ge = omega arith

  from-near : from - a ≤ 64
  from-near = omega arith

  to_le : to ≤ e
  to_le = omega arith

  to-near : e - to ≤ 64
  to-near = omega arith

  from-to : eqb (a / 64) ((e - 1) / 64) ≡ false → from ≤ to
  from-to i = let d = eqb-false (a / 64) ((e - 1) / 64) i in let g : a / 64 < (e - 1) / 64 = omega (arith, d) in omega arith

  -- by pages or value by value, the positions from a up to e are empty after, and no other changes
  pub sweep-live : (q : ℕ) → (sweep a e t u).live q ≡ wipe a e t q
  sweep-live q =
      bool (eqb (a / 64) ((e - 1) / 64))
      (λ i.
      let near : e ≤ a + 64 = omega (arith, eqb-true (a / 64) ((e - 1) / 64) i) in
      rw (one-page i) (elim (dec_le a q) [
        | no z ↦ drain-below (e - a) a 64 t q (omega arith) ∙ sym (wipe-below a e t q (omega arith))
        | yes z ↦ elim (dec_le e q) [
          | no y ↦ drain-inside (e - a) a 64 t q (omega arith) z (omega arith) ∙ sym (wipe-in a e t q z (omega arith))
          | yes y ↦ drain-above (e - a) a 64 t q (omega arith) ∙ sym (wipe-above a e t q y)
        ]
      ]))
      (λ i.
      let m = from-to i in
      rw (more-pages i) (elim (dec_le from q) [
        | no z ↦
            wipe-below from to tail.left q (omega arith) ∙ drain-below (e - to) to 64 head.left q (omega arith) ∙ elim (dec_le a q) [
              | no y ↦ drain-below (from - a) a 64 t q (omega arith) ∙ sym (wipe-below a e t q (omega arith))
              | yes y ↦ drain-inside (from - a) a 64 t q from-near y (omega (arith, from-ge)) ∙ sym (wipe-in a e t q y (omega (arith, to_le)))
            ]
        | yes z ↦ elim (dec_le to q) [
          | no y ↦ wipe-in from to tail.left q z (omega arith) ∙ sym (wipe-in a e t q (omega (arith, from-ge)) (omega (arith, to_le)))
          | yes y ↦ wipe-above from to tail.left q y ∙ elim (dec_le e q) [
            | no x ↦ drain-inside (e - to) to 64 head.left q to-near y (omega (arith, to_le)) ∙ sym (wipe-in a e t q (omega (arith, from-ge)) (omega arith))
            | yes x ↦
                drain-above (e - to) to 64 head.left q (omega (arith, to_le)) ∙ drain-above (from - a) a 64 t q (omega (arith, from-ge))
                ∙ sym (wipe-above a e t q x)
          ]
        ]
      ]))

  tail_apart : ((q : ℕ) → held (t q) + held (u q) ≤ 1) → (q : ℕ) → held (tail.left q) + held (u q) ≤ 1
  tail_apart h q = omega (arith, h q, drain-less (from - a) a 64 t q, drain-less (e - to) to 64 head.left q)

  pub sweep-apart : ((q : ℕ) → held (t q) + held (u q) ≤ 1) → (q : ℕ) → held ((sweep a e t u).live q) + held ((sweep a e t u).retired q) ≤ 1
  sweep-apart h q =
      bool (eqb (a / 64) ((e - 1) / 64))
      (λ i. rw (one-page i) (omega (arith, h q, drain-less (e - a) a 64 t q)))
      (λ i. rw (more-pages i) (moved_apart from to tail.left u q (tail_apart h q)))

  pub sweep-keeps : (cap : ℕ) (g : ℕ → ℕ) → e ≤ cap → ((q : ℕ) → held (t q) + held (u q) ≤ 1)
      → weight cap g (sweep a e t u).live + weight cap g (sweep a e t u).retired + total g (sweep a e t u).out ≡ weight cap g t + weight cap g u
  sweep-keeps cap g ec h =
      bool (eqb (a / 64) ((e - 1) / 64))
      (λ i. rw (one-page i) (omega (arith, drain-keeps cap g (e - a) a 64 t (omega arith))))
      (λ i.
      let m = from-to i in
      rw (more-pages i) (omega (
        arith,
        moved_keeps cap g from to tail.left u (tail_apart h),
        total-append g head.out tail.out,
        drain-keeps cap g (from - a) a 64 t (omega (arith, from-ge, m, to_le, ec)),
        drain-keeps cap g (e - to) to 64 head.left (omega (arith, to_le, ec)),
      )))

-- ---- a range, wrapping at cap

module _ (cap start count : ℕ) (t u : Table) (sc : start < cap) (some-count : 0 < count) (count-le : count ≤ cap) where
  abbrev first : Swept
  first = sweep start cap t u

  abbrev second : Swept
  second = sweep 0 (start + count - cap) first.live first.retired

  no_wrap : leb (start + count) cap ≡ true → sweep_range cap start count t u ≡ sweep start (start + count) t u
  unfolding sweep_range
  no_wrap i = rw i

  wrap : leb (start + count) cap ≡ false → sweep_range cap start count t u ≡ swept second.live second.retired (first.out ++ second.out)
  unfolding sweep_range
  wrap i = rw i

  range-on : (q : ℕ) → within start (start + count) q ≡ true → empty_range cap start count t q ≡ none
  range-on q i = rw i

  range-round : (q : ℕ) → within start (start + count) (q + cap) ≡ true → empty_range cap start count t q ≡ none
  range-round q i = bool (within start (start + count) q) (λ j. rw j) (λ j. rw (j, i))

  range-off : (q : ℕ) → within start (start + count) q ≡ false → within start (start + count) (q + cap) ≡ false → empty_range cap start count t q ≡ t q
  range-off q i j = rw (i, j)

  range-beyond : (q : ℕ) → t q ≡ none → empty_range cap start count t q ≡ none
  range-beyond q h = bool (covers cap start count q) (λ i. rw i) (λ i. rw i h)

  -- the range is emptied as in the plain table
  pub range-live : ((q : ℕ) → cap ≤ q → t q ≡ none) → (q : ℕ) → (sweep_range cap start count t u).live q ≡ empty_range cap start count t q
  range-live out q =
      bool (leb (start + count) cap)
      (λ i.
      let w = leb-true (start + count) cap i in
      rw (no_wrap i) (sweep-live start (start + count) t u (omega arith) q ∙ bool (within start (start + count) q)
      (λ j. rw j)
      (λ j. rw (j, within-above start (start + count) (q + cap) (omega arith)))))
      (λ i.
      let w = leb-false (start + count) cap i in
      let e = start + count - cap in
      let y = sweep-live start cap t u sc q in
      rw (wrap i) (sweep-live 0 e first.live first.retired (omega arith) q ∙ elim (dec_le e q) [
        | no k ↦ wipe-in 0 e first.live q (omega arith) (omega arith) ∙ sym (range-round q (within-yes start (start + count) (q + cap) (omega arith) (omega arith)))
        | yes k ↦ wipe-above 0 e first.live q k ∙ y ∙ elim (dec_le start q) [
          | no n ↦
              wipe-below start cap t q (omega arith)
              ∙ sym (range-off q (within-below start (start + count) q (omega arith)) (within-above start (start + count) (q + cap) (omega arith)))
          | yes n ↦ elim (dec_le cap q) [
            | no b ↦ wipe-in start cap t q n (omega arith) ∙ sym (range-on q (within-yes start (start + count) q n (omega arith)))
            | yes b ↦ wipe-above start cap t q b ∙ out q b ∙ sym (range-beyond q (out q b))
          ]
        ]
      ]))

  pub range-apart : ((q : ℕ) → held (t q) + held (u q) ≤ 1) → (q : ℕ)
      → held ((sweep_range cap start count t u).live q) + held ((sweep_range cap start count t u).retired q) ≤ 1
  range-apart h q =
      bool (leb (start + count) cap)
      (λ i. rw (no_wrap i) (sweep-apart start (start + count) t u (omega arith) h q))
      (λ i.
      let w = leb-false (start + count) cap i in
      rw (wrap i) (sweep-apart 0 (start + count - cap) first.live first.retired (omega arith) (sweep-apart start cap t u sc h) q))

  -- what is live, retired and returned after weighs what was live and retired before
  pub range-keeps : (g : ℕ → ℕ) → ((q : ℕ) → held (t q) + held (u q) ≤ 1)
      → weight cap g (sweep_range cap start count t u).live + weight cap g (sweep_range cap start count t u).retired + total g (sweep_range cap start count t u).out
      ≡ weight cap g t + weight cap g u
  range-keeps g h =
      bool (leb (start + count) cap)
      (λ i. rw (no_wrap i) (sweep-keeps start (start + count) t u (omega arith) cap g (leb-true (start + count) cap i) h))
      (λ i.
      let w = leb-false (start + count) cap i in
      rw (wrap i) (omega (
        arith,
        total-append g first.out second.out,
        sweep-keeps start cap t u sc cap g (omega arith) h,
        sweep-keeps 0 (start + count - cap) first.live first.retired (omega arith) cap g (omega arith) (sweep-apart start cap t u sc h),
      )))
