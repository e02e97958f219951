-- What an insert leaves: what stands at each position, the answer, how many values; and a sound page stays sound. Assumes nothing.
use mathlib.Core.Path.{◌≡◌, refl, sym, ap, subst, ◌∙◌}
use mathlib.Core.Bool.{Bool, true, false, cond}
use mathlib.Core.Option.{Option, none, some}
use Prim.Native.Nat.{ℕ, ◌+◌, ◌%◌, ◌≤◌, ◌<◌}
use native.Mathlib.Omega.{arith}
use native.Mathlib.Decide.{ℕ_discrete, dec_lt}
use lib.Dec.{eqb}
use borrow.Author.Tests.{eq-eqb, ne_eqb}
use Rattle.words.specs.Word.{bit_at, set_bit, count}
use Rattle.words.proofs.BitLaws.{bit-lt, bit-none}
use Rattle.model.specs.Calls.{new, replaced, refused}
use Rattle.model.specs.Table.{Pair, pair_of, held, put_at, put_answer_of}
use Rattle.model.specs.Window.{Page, cell_of, pair_in, stands_at}
use Rattle.model.specs.Sound.{SoundPage}
use Rattle.model.specs.Pages.{Inserted, inserted, put_cell, set_value, promoted, insert_page}
use Rattle.page_base.specs.Page.{Placed, OfPage, Here}
use Rattle.page_base.proofs.ExchangeLaws.{value-placed}
use Rattle.page_base.proofs.StandLaws.{stands-in, stands-out, stands-none}
use Rattle.page_base.proofs.PlaceLaws.{cell-some, cell-used, cell-occupied, cell-le, placed, all_here, sound-of}
use Rattle.page_insert.specs.Insert.{free_of}
use Rattle.page_insert.proofs.FreeLaws.{free-clear}
use Rattle.page_insert.proofs.CaseLaws.{over-same, over-other, new-dense, new-sparse, new-promoted, page-over, page-new, some-free}
use Rattle.page_insert.proofs.PutLaws.{at_position, Room, put-taken, put_count, put-placed, put-here, put-stands}
use Rattle.page_insert.proofs.PromotionLaws.{promoted-occupied, promoted-kind, promoted-placed, promoted-here, promoted-stands}

-- ---- a value replaced

module _ (p : Page) (k v : ℕ) (l : cell_of p k < 64) where
  abbrev changed : Page
  changed = set_value p (cell_of p k) v

  same-cell : (j : ℕ) → cell_of changed j ≡ cell_of p j
  unfolding cell_of
  same-cell j = refl

  set_own : stands_at changed k ≡ some (pair_of (p.sequences (cell_of p k)) v)
  set_own = stands-in changed k (cell_of p k) (same-cell k) l ∙ rw (eq-eqb (cell_of p k) (cell_of p k) refl)

  set_other : (j : ℕ) → j < 64 → (j ≡ k → ⊥) → stands_at changed j ≡ stands_at p j
  set_other j m e = elim (dec_lt (cell_of p j) 64) [
    | yes h ↦
        let q : cell_of p j ≡ cell_of p k → ⊥ = λ x. e (sym (cell-used p j h).1 ∙ ap (λ (c : ℕ). p.sequences c % 64) x ∙ (cell-used p k l).1) in
        stands-in changed j (cell_of p j) (same-cell j) h
        ∙ rw (ne_eqb (cell_of p j) (cell_of p k) q) (sym (stands-in p j (cell_of p j) refl h))
    | no h ↦
        let z : cell_of p j ≡ 64 = omega (arith, cell-le p j) in
        stands-out changed j (same-cell j ∙ z) ∙ sym (stands-out p j z)
  ]

  set-placed : (n : ℕ) → Placed n p → Placed n changed
  set-placed n ok = value-placed n p (cell_of p k) v ok

-- ---- what an insert leaves

pub record Leaves (n : ℕ) (p : Page) (s v : ℕ) (i : Inserted) : Type 0 where
  -- "insert: nothing there, put; same sequence, put and give the old value; else refuse 4"
  pub answer : i.answer ≡ put_answer_of s (stands_at p (s % 64))
  pub stands : (j : ℕ) → j < 64 → stands_at i.page j ≡ cond (eqb j (s % 64)) (put_at s v (stands_at p j)) (stands_at p j)
  -- one value more where nothing stood
  pub counted : count i.page.occupied + held (stands_at p (s % 64)) ≡ count p.occupied + 1
  -- a page that became dense has more than n values
  pub dense : i.page.kind ≡ 2 → (p.kind ≡ 2 → ⊥) → n < count i.page.occupied
  pub in_place : Placed n i.page
  pub taken : bit_at i.page.occupied (s % 64) ≡ 1
  pub here : (cap g : ℕ) → OfPage cap g s → Here cap g p → Here cap g i.page

-- at an occupied position
module _ (n : ℕ) (p : Page) (s v : ℕ) (ok : Placed n p) (l : cell_of p (s % 64) < 64) where
  abbrev cell : ℕ
  cell = cell_of p (s % 64)

  stood : stands_at p (s % 64) ≡ some (pair_in p cell)
  stood = stands-in p (s % 64) cell refl l

  one-held : held (stands_at p (s % 64)) ≡ 1
  one-held = ap held stood

  same-leaves : p.sequences cell ≡ s → Leaves n p s v (inserted (set_value p cell v) (replaced (p.values cell)) false)
  same-leaves e = record {
    answer = sym (ap (put_answer_of s) stood ∙ rw (eq-eqb (p.sequences cell) s e));
    stands = at_position p (set_value p cell v) s v (some (pair_in p cell)) stood
        (set_own p (s % 64) v l ∙ rw (eq-eqb (p.sequences cell) s e, e))
        (set_other p (s % 64) v l);
    counted = omega (arith, one-held);
    dense = λ a b. absurd (b a);
    in_place = set-placed p (s % 64) v l n ok;
    taken = cell-occupied n p ok (s % 64) l;
    here = λ cap g q h. h;
  }

  other-leaves : (p.sequences cell ≡ s → ⊥) → Leaves n p s v (inserted p (refused 4) false)
  other-leaves e = record {
    answer = sym (ap (put_answer_of s) stood ∙ rw (ne_eqb (p.sequences cell) s e));
    stands = at_position p p s v (some (pair_in p cell)) stood (stood ∙ rw (ne_eqb (p.sequences cell) s e)) (λ j m q. refl);
    counted = omega (arith, one-held);
    dense = λ a b. absurd (b a);
    in_place = ok;
    taken = cell-occupied n p ok (s % 64) l;
    here = λ cap g q h. h;
  }

-- at a free position: in the page as it is, or in the promoted page
record Alike (p q : Page) : Type 0 where
  pairs : (j : ℕ) → j < 64 → stands_at q j ≡ stands_at p j
  words : q.occupied ≡ p.occupied
  own_page : (cap g : ℕ) → Here cap g p → Here cap g q

alike_self : (p : Page) → Alike p p
alike_self p = record { pairs = λ j l. refl; words = refl; own_page = λ cap g h. h }

alike-promoted : (n : ℕ) (p : Page) → Placed n p → Alike p (promoted p)
alike-promoted n p ok = record {
  pairs = promoted-stands n p ok;
  words = promoted-occupied n p ok;
  own_page = promoted-here n p ok;
}

put-leaves : (n k c s v : ℕ) (p q : Page) (b : Bool) → Placed n q → Alike p q → Room n k c s q → (k ≡ 2 → (p.kind ≡ 2 → ⊥) → n ≤ count p.occupied)
    → Leaves n p s v (inserted (put_cell q k c s v) new b)
put-leaves n k c s v p q b ok alike room many =
    let stood : stands_at p (s % 64) ≡ none = sym (alike.pairs (s % 64) (omega arith)) ∙ stands-none n q ok (s % 64) room.empty in
    let more : count (set_bit q.occupied (s % 64)) ≡ count p.occupied + 1 = put_count n k c s v q ok room ∙ ap (λ (w : ℕ). count w + 1) alike.words in
    record {
      answer = sym (ap (put_answer_of s) stood);
      stands = λ j l. put-stands n k c s v q ok room j l ∙ ap (λ (o : Option Pair). cond (eqb j (s % 64)) (put_at s v o) o) (alike.pairs j l);
      counted = omega (arith, more, ap held stood);
      dense = λ e h. omega (arith, more, many e h);
      in_place = put-placed n k c s v q ok room;
      taken = put-taken n k c s v q ok room;
      here = λ cap g e h. put-here n k c s v q ok room cap g e (alike.own_page cap g h);
    }

module _ (n s : ℕ) (p : Page) (ok : Placed n p) (empty : bit_at p.occupied (s % 64) ≡ 0) where
  dense-room : p.kind ≡ 2 → Room n 2 (s % 64) s p
  dense-room k = record {
    inside = omega arith;
    free = ap (λ (w : ℕ). bit_at w (s % 64)) (ok.dense_filled k) ∙ empty;
    empty = empty;
    kinds = omega arith;
    some-kind = λ e. omega arith;
    sparse = λ e. absurd (omega arith);
    dense = λ e. (k, refl);
  }

  sparse-room : n < 64 → (p.kind ≡ 2 → ⊥) → count p.occupied < n → Room n 1 (free_of p.filled) s p
  sparse-room l k m =
      let f = some-free n p ok n (omega arith) m in
      record {
        inside = omega arith;
        free = free-clear p.filled (omega arith);
        empty = empty;
        kinds = omega arith;
        some-kind = λ e. omega arith;
        sparse = λ e. (k, f);
        dense = λ e. absurd (omega arith);
      }

module _ (n : ℕ) (p : Page) (s v : ℕ) (ok : Placed n p) (l : n < 64) where
  new-leaves : 64 ≤ cell_of p (s % 64) → Leaves n p s v (insert_page n p s v)
  new-leaves h =
      let empty : bit_at p.occupied (s % 64) ≡ 0 = elim (ℕ_discrete (bit_at p.occupied (s % 64)) 1) [
        | yes b ↦ absurd (omega (arith, cell-some n p ok (s % 64) (omega arith) b))
        | no b ↦ omega (arith, bit-lt p.occupied (s % 64))
      ] in
      let way = page-new p s v n (cell_of p (s % 64)) refl h in
      elim (ℕ_discrete p.kind 2) [
        | yes k ↦
            subst (Leaves n p s v) (new-dense p s v n (put_cell p 2 (s % 64) s v) k refl ∙ way)
            (put-leaves n 2 (s % 64) s v p p false ok (alike_self p) (dense-room n s p ok empty k) (λ a b. absurd (b k)))
        | no k ↦
            elim (dec_lt (count p.occupied) n) [
              | yes m ↦
                  subst (Leaves n p s v) (new-sparse p s v n (put_cell p 1 (free_of p.filled) s v) k m refl ∙ way)
                  (put-leaves n 1 (free_of p.filled) s v p p false ok (alike_self p) (sparse-room n s p ok empty l k m) (λ a b. absurd (omega arith)))
              | no m ↦
                  let dense = promoted-placed n p ok in
                  subst (Leaves n p s v) (new-promoted p s v n (put_cell (promoted p) 2 (s % 64) s v) k (omega arith) refl ∙ way)
                  (put-leaves n 2 (s % 64) s v p (promoted p) true dense (alike-promoted n p ok)
                  (dense-room n s (promoted p) dense (ap (λ (w : ℕ). bit_at w (s % 64)) (promoted-occupied n p ok) ∙ empty) (promoted-kind n p ok))
                  (λ a b. omega arith))
            ]
      ]

  pub insert-leaves : Leaves n p s v (insert_page n p s v)
  insert-leaves = elim (dec_lt (cell_of p (s % 64)) 64) [
    | yes h ↦
        let c = cell_of p (s % 64) in
        let way = page-over p s v n c refl h in
        elim (ℕ_discrete (p.sequences c) s) [
          | yes e ↦ subst (Leaves n p s v) (over-same p s v c (set_value p c v) e refl ∙ way) (same-leaves n p s v ok h e)
          | no e ↦ subst (Leaves n p s v) (over-other p s v c e ∙ way) (other-leaves n p s v ok h e)
        ]
    | no h ↦ new-leaves (omega arith)
  ]

-- a sound page stays sound
pub insert-sound : (n cap g s v : ℕ) (p : Page) → SoundPage n cap g p → OfPage cap g s → n < 64 → SoundPage n cap g (insert_page n p s v).page
insert-sound n cap g s v p ok e l =
    let i = insert-leaves n p s v (placed n cap g p ok) l in
    sound-of n cap g _ i.in_place (λ k z. omega (arith, i.taken, ap (λ (w : ℕ). bit_at w (s % 64)) z, bit-none (s % 64))) (i.here cap g e (all_here n cap g p ok))
