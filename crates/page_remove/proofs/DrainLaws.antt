-- Values taken out of a page by rising position: the first of them, and none; what the page keeps; the test at other positions; and
-- the same values taken out of a table. Assumes nothing.
use mathlib.Core.Path.{◌≡◌, refl, sym, ap, ◌∙◌}
use mathlib.Core.Bool.{Bool, true, false, ◌&&◌}
use mathlib.Core.List.{List, [], ◌∷◌}
use mathlib.Core.Option.{none, some}
use Prim.Native.Nat.{ℕ, zero, suc, ◌+◌, ◌-◌, ◌%◌, ◌≤◌, ◌<◌}
use native.Mathlib.Omega.{arith}
use native.Mathlib.Decide.{ℕ_discrete}
use lib.ListN.{length}
use borrow.Author.Tests.{eq-eqb, ne_eqb, eqb-true, eqb-false}
use Rattle.words.proofs.CaseLaws.{bool, both}
use Rattle.words.specs.Word.{bit_at, is_set, clear_bit, count}
use Rattle.words.proofs.BitLaws.{bit-lt}
use Rattle.words.proofs.ChangeLaws.{with-same}
use Rattle.model.specs.Table.{Pair, Table, at}
use Rattle.model.specs.Positions.{Drained, drained, drain}
use Rattle.model.specs.Window.{Page, cell_of, pair_in, stands_at}
use Rattle.model.specs.Pages.{take_cell_of, drain_page, PageDrained, page_drained}
use Rattle.model.specs.Sound.{Used}
use Rattle.page_base.specs.Page.{Placed, Here}
use Rattle.page_base.proofs.StandLaws.{stands-some, stands-none}
use Rattle.page_base.proofs.PlaceLaws.{cell-some, cell-used, take-placed}
use Rattle.page_remove.proofs.StandLaws.{clear-fewer, take-stands, take_count}
use Rattle.page_remove.proofs.RemoveLaws.{take-here}

module _ (P : ℕ → Bool) where
  -- position j is one that is taken out
  abbrev pub takes : Page → ℕ → Bool
  takes p j = P j && is_set p.occupied j

  pub drain-zero : (n j : ℕ) (p : Page) → drain_page n j P 0 p ≡ page_drained p []
  unfolding drain_page
  drain-zero zero j p = refl
  drain-zero (suc n) j p = refl

  one-skipped : (n j k : ℕ) (p : Page) → P j && is_set p.occupied j ≡ false → drain_page (suc n) j P (suc k) p ≡ drain_page n (suc j) P (suc k) p
  unfolding drain_page
  one-skipped n j k p e = rw (e, drain_page)

  one-taken : (n j k : ℕ) (p : Page) → P j && is_set p.occupied j ≡ true
      → drain_page (suc n) j P (suc k) p
      ≡ page_drained (drain_page n (suc j) P k (take_cell_of p (cell_of p j))).page (p.values (cell_of p j) ∷ (drain_page n (suc j) P k (take_cell_of p (cell_of p j))).out)
  unfolding drain_page
  one-taken n j k p e = rw (e, drain_page)

  -- m positions that are not taken out are passed over
  skipped : (m n j k : ℕ) (p : Page) → ((i : ℕ) → j ≤ i → i < m + j → P i && is_set p.occupied i ≡ false)
      → (t e : ℕ) → t ≡ m + n → e ≡ m + j → drain_page t j P k p ≡ drain_page n e P k p
  skipped m n j zero p h t e a b = drain-zero t j p ∙ sym (drain-zero n e p)
  skipped zero n j (suc k) p h t e a b = λ i. drain_page (at i) (from i) P (suc k) p
    where
      at : t ≡ n
      at = omega arith

      from : j ≡ e
      from = omega arith
  skipped (suc m) n j (suc k) p h t e a b =
      let q : t ≡ suc (m + n) = omega arith in
      ap (λ (x : ℕ). drain_page x j P (suc k) p) q ∙ one-skipped (m + n) j k p (h j (omega arith) (omega arith))
      ∙ skipped m n (suc j) (suc k) p (λ i x y. h i (omega arith) (omega arith)) (m + n) e refl (omega arith)

  pub drain-none : (k : ℕ) (p : Page) → ((i : ℕ) → i < 64 → takes p i ≡ false) → drain_page 64 0 P k p ≡ page_drained p []
  unfolding drain_page
  drain-none k p h = skipped 64 0 0 k p (λ i x y. h i (omega arith)) 64 64 (omega arith) (omega arith)

  -- a cell taken out leaves no position taken out that was not
  passed : (p : Page) (c i : ℕ) → takes p i ≡ false → takes (take_cell_of p c) i ≡ false
  passed p c i e =
      let j = p.sequences c % 64 in
      bool (P i)
      (λ a. rw a (ne_eqb (bit_at (clear_bit p.occupied j) i) 1 (λ q. eqb-false (bit_at p.occupied i) 1 (rw a at e) (clear-fewer p.occupied j i q))))
      (λ a. rw a)

  -- the lowest position that is taken out, whose value is in its cell
  pub drain-first : (k q : ℕ) (p : Page) → q < 64 → takes p q ≡ true → ((i : ℕ) → i < q → takes p i ≡ false) → p.sequences (cell_of p q) % 64 ≡ q
      → drain_page 64 0 P (suc k) p
      ≡ page_drained (drain_page 64 0 P k (take_cell_of p (cell_of p q))).page (p.values (cell_of p q) ∷ (drain_page 64 0 P k (take_cell_of p (cell_of p q))).out)
  drain-first k q p l e h at =
      let m = 64 - suc q in
      let c = cell_of p q in
      skipped q (suc m) 0 (suc k) p (λ i x y. h i (omega arith)) 64 q (omega arith) (omega arith)
      ∙ one-taken m q k p e
      ∙ ap (λ (d : PageDrained). page_drained d.page (p.values c ∷ d.out))
      (sym (skipped (suc q) m 0 k (take_cell_of p c) rest 64 (suc q) (omega arith) (omega arith)))
    where
      gone : takes (take_cell_of p (cell_of p q)) q ≡ false
      gone =
          let z : bit_at (clear_bit p.occupied (p.sequences (cell_of p q) % 64)) q ≡ 0 = ap (λ (x : ℕ). bit_at (clear_bit p.occupied x) q) at ∙ with-same p.occupied q 0 (omega arith) in
          bool (P q) (λ a. rw a (ne_eqb (bit_at (clear_bit p.occupied (p.sequences (cell_of p q) % 64)) q) 1 (λ b. omega (arith, b, z)))) (λ a. rw a)

      rest : (i : ℕ) → 0 ≤ i → i < suc q + 0 → takes (take_cell_of p (cell_of p q)) i ≡ false
      rest i x y = elim (ℕ_discrete i q) [ yes b ↦ rw b gone | no b ↦ passed p (cell_of p q) i (h i (omega arith)) ]

  -- ---- positions past those that are taken out

  pub drain-end : (j k : ℕ) (p : Page) → drain_page 0 j P k p ≡ page_drained p []
  unfolding drain_page
  drain-end j k p = refl

  -- the r positions after the first m are not taken out
  ended : (m r j k : ℕ) (p : Page) → ((i : ℕ) → m + j ≤ i → i < r + (m + j) → P i ≡ false) → (t : ℕ) → t ≡ m + r → drain_page t j P k p ≡ drain_page m j P k p
  ended m r j zero p h t e = drain-zero t j p ∙ sym (drain-zero m j p)
  ended zero r j (suc k) p h t e =
      skipped r 0 j (suc k) p (λ i x y. ap (λ (b : Bool). b && is_set p.occupied i) (h i (omega arith) (omega arith))) t (r + j) (omega arith) refl
      ∙ drain-end (r + j) (suc k) p ∙ sym (drain-end j (suc k) p)
  ended (suc m) r j (suc k) p h t e =
      let q : t ≡ suc (m + r) = omega arith in
      let c = cell_of p j in
      ap (λ (x : ℕ). drain_page x j P (suc k) p) q
      ∙ bool (takes p j)
      (λ b. one-taken (m + r) j k p b
      ∙ ap (λ (d : PageDrained). page_drained d.page (p.values c ∷ d.out)) (ended m r (suc j) k (take_cell_of p c) (λ i x y. h i (omega arith) (omega arith)) (m + r) refl)
      ∙ sym (one-taken m j k p b))
      (λ b. one-skipped (m + r) j k p b
      ∙ ended m r (suc j) (suc k) p (λ i x y. h i (omega arith) (omega arith)) (m + r) refl
      ∙ sym (one-skipped m j k p b))

  -- only the positions from a up to e are taken out
  pub drain-span : (a e k : ℕ) (p : Page) → a ≤ e → e ≤ 64 → ((i : ℕ) → i < a → P i ≡ false) → ((i : ℕ) → e ≤ i → i < 64 → P i ≡ false)
      → drain_page 64 0 P k p ≡ drain_page (e - a) a P k p
  drain-span a e k p l m low high =
      skipped a (64 - a) 0 k p (λ i x y. ap (λ (b : Bool). b && is_set p.occupied i) (low i (omega arith))) 64 a (omega arith) (omega arith)
      ∙ ended (e - a) (64 - e) a k p (λ i x y. high i (omega arith) (omega arith)) (64 - a) (omega arith)

  -- ---- a page whose values are in their places

  -- what holds of nothing taken out, and of one cell more taken out, holds of a drained page
  pub drain-holds : (n : ℕ) (R : ℕ → Page → PageDrained → Type 0) → ((k : ℕ) (p : Page) → Placed n p → R k p (page_drained p []))
      → ((k : ℕ) (p : Page) (c : ℕ) (d : PageDrained) → Placed n p → c < 64 → Used p c → R k (take_cell_of p c) d → R (suc k) p (page_drained d.page (p.values c ∷ d.out)))
      → (m j k : ℕ) (p : Page) → j + m ≤ 64 → Placed n p → R k p (drain_page m j P k p)
  drain-holds n R begin more m j zero p l ok = rw (drain-zero m j p) (begin zero p ok)
  drain-holds n R begin more zero j (suc k) p l ok = rw (drain-end j (suc k) p) (begin (suc k) p ok)
  drain-holds n R begin more (suc m) j (suc k) p l ok =
      bool (takes p j)
      (λ b.
      let c = cell_of p j in
      let i = cell-some n p ok j (omega arith) (eqb-true (bit_at p.occupied j) 1 (both (P j) _ b).1) in
      let u = (cell-used p j i).0 in
      rw (one-taken m j k p b)
      (more k p c (drain_page m (suc j) P k (take_cell_of p c)) ok i u
      (drain-holds n R begin more m (suc j) k (take_cell_of p c) (omega arith) (take-placed n p ok c i u))))
      (λ b. rw (one-skipped m j k p b) (drain-holds n R begin more m (suc j) (suc k) p (omega arith) ok))

  module _ (n m j k : ℕ) (p : Page) (inside : j + m ≤ 64) (ok : Placed n p) where
    pub drain-placed : Placed n (drain_page m j P k p).page
    drain-placed = drain-holds n (λ (k : ℕ) (p : Page) (d : PageDrained). Placed n d.page) (λ k p ok. ok) (λ k p c d ok l u h. h) m j k p inside ok

    -- the kind and the cells are unaltered
    pub drain-kind : (drain_page m j P k p).page.kind ≡ p.kind
    drain-kind = drain-holds n (λ (k : ℕ) (p : Page) (d : PageDrained). d.page.kind ≡ p.kind) (λ k p ok. refl) (λ k p c d ok l u h. h) m j k p inside ok

    pub drain-sequences : (drain_page m j P k p).page.sequences ≡ p.sequences
    drain-sequences = drain-holds n (λ (k : ℕ) (p : Page) (d : PageDrained). d.page.sequences ≡ p.sequences) (λ k p ok. refl) (λ k p c d ok l u h. h) m j k p inside ok

    pub drain-values : (drain_page m j P k p).page.values ≡ p.values
    drain-values = drain-holds n (λ (k : ℕ) (p : Page) (d : PageDrained). d.page.values ≡ p.values) (λ k p ok. refl) (λ k p c d ok l u h. h) m j k p inside ok

    pub drain-here : (cap g : ℕ) → Here cap g p → Here cap g (drain_page m j P k p).page
    drain-here cap g =
        drain-holds n (λ (k : ℕ) (p : Page) (d : PageDrained). Here cap g p → Here cap g d.page) (λ k p ok h. h)
        (λ k p c d ok l u f h. f (take-here cap g p c h)) m j k p inside ok

    pub drain-length : length (drain_page m j P k p).out ≤ k
    drain-length = drain-holds n (λ (k : ℕ) (p : Page) (d : PageDrained). length d.out ≤ k) (λ k p ok. omega arith) (λ k p c d ok l u h. omega (arith, h)) m j k p inside ok

    pub drain-count : count (drain_page m j P k p).page.occupied + length (drain_page m j P k p).out ≡ count p.occupied
    drain-count =
        drain-holds n (λ (k : ℕ) (p : Page) (d : PageDrained). count d.page.occupied + length d.out ≡ count p.occupied) (λ k p ok. omega arith)
        (λ k p c d ok l u h. omega (arith, h, take_count n p ok c l u)) m j k p inside ok

-- ---- two tests that agree at the positions give the same

pub drain-same : (P Q : ℕ → Bool) (m j k : ℕ) (p : Page) → ((i : ℕ) → j ≤ i → i < j + m → P i ≡ Q i) → drain_page m j P k p ≡ drain_page m j Q k p
drain-same P Q m j zero p h = drain-zero P m j p ∙ sym (drain-zero Q m j p)
drain-same P Q zero j (suc k) p h = drain-end P j (suc k) p ∙ sym (drain-end Q j (suc k) p)
drain-same P Q (suc m) j (suc k) p h =
    let c = cell_of p j in
    let q : takes Q p j ≡ takes P p j = ap (λ (b : Bool). b && is_set p.occupied j) (sym (h j (omega arith) (omega arith))) in
    bool (takes P p j)
    (λ b. one-taken P m j k p b
    ∙ ap (λ (d : PageDrained). page_drained d.page (p.values c ∷ d.out)) (drain-same P Q m (suc j) k (take_cell_of p c) (λ i x y. h i (omega arith) (omega arith)))
    ∙ sym (one-taken Q m j k p (q ∙ b)))
    (λ b. one-skipped P m j k p b
    ∙ drain-same P Q m (suc j) (suc k) p (λ i x y. h i (omega arith) (omega arith))
    ∙ sym (one-skipped Q m j k p (q ∙ b)))

-- ---- a drained page, and the table drained at its positions

table-zero : (m q : ℕ) (T : Table) → drain m q 0 T ≡ drained T []
unfolding drain
table-zero zero q T = refl
table-zero (suc m) q T = refl

table-end : (q k : ℕ) (T : Table) → drain 0 q k T ≡ drained T []
unfolding drain
table-end q k T = refl

table-skipped : (m q k : ℕ) (T : Table) → T q ≡ none → drain (suc m) q (suc k) T ≡ drain m (suc q) (suc k) T
unfolding drain
table-skipped m q k T e = rw (e, drain)

table_taken : (m q k : ℕ) (T : Table) (x : Pair) → T q ≡ some x
    → drain (suc m) q (suc k) T ≡ drained (drain m (suc q) k (at T q none)).left (x.value ∷ (drain m (suc q) k (at T q none)).out)
unfolding drain
table_taken m q k T x e = rw (e, drain)

-- the page is at the positions from base on, of which m from j on were drained
pub record TableDrained (base j m : ℕ) (T : Table) (d : Drained) (e : PageDrained) : Type 0 where
  pub out : d.out ≡ e.out
  pub here : (i : ℕ) → i < 64 → d.left (base + i) ≡ stands_at e.page i
  pub below : (q : ℕ) → q < base + j → d.left q ≡ T q
  pub above : (q : ℕ) → base + j + m ≤ q → d.left q ≡ T q

-- position j of the page emptied, in the table and in the page
emptied-both : (n base j : ℕ) (p : Page) (T : Table) → Placed n p → (c : ℕ) → c < 64 → Used p c → p.sequences c % 64 ≡ j
    → ((i : ℕ) → i < 64 → T (base + i) ≡ stands_at p i) → (i : ℕ) → i < 64 → at T (base + j) none (base + i) ≡ stands_at (take_cell_of p c) i
emptied-both n base j p T ok c l u e h i m =
    elim (ℕ_discrete i j) [
      | yes q ↦ rw (eq-eqb (base + i) (base + j) (omega arith)) (sym (take-stands n p ok c l u i m ∙ rw (eq-eqb i (p.sequences c % 64) (omega arith))))
      | no q ↦ rw (ne_eqb (base + i) (base + j) (λ z. q (omega arith))) (h i m ∙ sym (take-stands n p ok c l u i m ∙ rw (ne_eqb i (p.sequences c % 64) (λ z. q (omega arith)))))
    ]

module _ (n base : ℕ) (P : ℕ → Bool) where
  pub drain-positions-from : (m j k q : ℕ) (p : Page) (T : Table) → q ≡ base + j → Placed n p → j + m ≤ 64 → ((i : ℕ) → i < 64 → T (base + i) ≡ stands_at p i)
      → ((i : ℕ) → j ≤ i → i < j + m → P i ≡ true) → TableDrained base j m T (drain m q k T) (drain_page m j P k p)
  drain-positions-from m j zero q p T e ok l h t =
      rw (table-zero m q T, drain-zero P m j p) (record { out = refl; here = h; below = λ x y. refl; above = λ x y. refl })
  drain-positions-from zero j (suc k) q p T e ok l h t =
      rw (table-end q (suc k) T, drain-end P j (suc k) p) (record { out = refl; here = h; below = λ x y. refl; above = λ x y. refl })
  drain-positions-from (suc m) j (suc k) q p T e ok l h t =
      elim (ℕ_discrete (bit_at p.occupied j) 1) [
        | yes b ↦
            let c = cell_of p j in
            let y = cell-some n p ok j (omega arith) b in
            let u = cell-used p j y in
            let s : T q ≡ some (pair_in p c) = ap T e ∙ h j (omega arith) ∙ stands-some n p ok j (omega arith) b in
            let i = drain-positions-from m (suc j) k (suc q) (take_cell_of p c) (at T q none) (omega arith) (take-placed n p ok c y u.0) (omega arith)
            (rw e (emptied-both n base j p T ok c y u.0 u.1 h)) (λ i v w. t i (omega arith) (omega arith)) in
            rw (table_taken m q k T (pair_in p c) s, one-taken P m j k p (rw (t j (omega arith) (omega arith)) (eq-eqb (bit_at p.occupied j) 1 b)))
            (record {
              out = ap (λ (o : List ℕ). p.values c ∷ o) i.out;
              here = i.here;
              below = λ x v. i.below x (omega arith) ∙ rw (ne_eqb x q (λ z. omega arith));
              above = λ x v. i.above x (omega arith) ∙ rw (ne_eqb x q (λ z. omega arith));
            })
        | no b ↦
            let s : T q ≡ none = ap T e ∙ h j (omega arith) ∙ stands-none n p ok j (omega (arith, bit-lt p.occupied j)) in
            let i = drain-positions-from m (suc j) (suc k) (suc q) p T (omega arith) ok (omega arith) h (λ i v w. t i (omega arith) (omega arith)) in
            rw (table-skipped m q k T s, one-skipped P m j k p (rw (t j (omega arith) (omega arith)) (ne_eqb (bit_at p.occupied j) 1 b)))
            (record { out = i.out; here = i.here; below = λ x v. i.below x (omega arith); above = λ x v. i.above x (omega arith) })
      ]

  pub drain-positions : (m j k : ℕ) (p : Page) (T : Table) → Placed n p → j + m ≤ 64 → ((i : ℕ) → i < 64 → T (base + i) ≡ stands_at p i)
      → ((i : ℕ) → j ≤ i → i < j + m → P i ≡ true) → TableDrained base j m T (drain m (base + j) k T) (drain_page m j P k p)
  drain-positions m j k p T ok l h t = drain-positions-from m j k (base + j) p T refl ok l h t
