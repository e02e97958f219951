-- A page whose values are in their places: the cell of each position, a cell taken out of use, and how many values it holds. Assumes nothing.
use mathlib.Core.Path.{◌≡◌, refl, sym, ap, ◌∙◌}
use mathlib.Core.Bool.{Bool, true, false, not, ◌&&◌}
use Prim.Native.Nat.{ℕ, zero, suc, ◌%◌, ◌≤◌, ◌<◌}
use native.Mathlib.Omega.{arith}
use native.Mathlib.Decide.{ℕ_discrete}
use lib.Dec.{eqb}
use borrow.Author.Tests.{eq-eqb, ne_eqb, eqb-true}
use Rattle.words.proofs.CaseLaws.{bool, both}
use Rattle.words.proofs.FirstLaws.{first-is, first-eq}
use Rattle.words.specs.Word.{bit_at, is_set, clear_bit, count, lowest}
use Rattle.words.proofs.BitLaws.{bit-lt, bit-none, ext-bits}
use Rattle.words.proofs.ChangeLaws.{with-same, with-other, with-lt}
use Rattle.words.proofs.CountLaws.{count-clear, count-zero, count_none}
use Rattle.words.proofs.LowestLaws.{lowest-is, lowest-some}
use Rattle.model.specs.Window.{Page, cell_of}
use Rattle.model.specs.Sound.{Used, SoundPage}
use Rattle.model.specs.Pages.{values_in_of, holds_value, take_cell_of}
use Rattle.page_base.specs.Page.{Placed, Here}

pub placed : (n cap g : ℕ) (p : Page) → SoundPage n cap g p → Placed n p
placed n cap g p s = record {
  kinds = s.kinds;
  none_occupied = s.none_occupied;
  none_filled = s.none_filled;
  named = s.named;
  filled_by = s.filled_by;
  once = s.once;
  sparse = s.sparse;
  dense_filled = s.dense_filled;
  dense_cells = s.dense_cells;
  occupied_fits = s.occupied_fits;
  filled_fits = s.filled_fits;
}

pub all_here : (n cap g : ℕ) (p : Page) → SoundPage n cap g p → Here cap g p
all_here n cap g p s c l u = (s.here c l u, s.wire c l u)

-- the other way
pub sound-of : (n cap g : ℕ) (p : Page) → Placed n p → ((p.kind ≡ 0 → ⊥) → p.occupied ≡ 0 → ⊥) → Here cap g p → SoundPage n cap g p
sound-of n cap g p ok nonempty here = record {
  kinds = ok.kinds;
  none_occupied = ok.none_occupied;
  none_filled = ok.none_filled;
  some_occupied = nonempty;
  named = ok.named;
  filled_by = ok.filled_by;
  once = ok.once;
  here = λ c l u. (here c l u).0;
  wire = λ c l u. (here c l u).1;
  sparse = ok.sparse;
  dense_filled = ok.dense_filled;
  dense_cells = ok.dense_cells;
  occupied_fits = ok.occupied_fits;
  filled_fits = ok.filled_fits;
}

-- ---- the cell of a position

module _ (p : Page) (j : ℕ) where
  abbrev test : ℕ → Bool
  test c = is_set p.filled c && eqb (p.sequences c % 64) j

  test-is : (c : ℕ) → Used p c → p.sequences c % 64 ≡ j → test c ≡ true
  test-is c u e = rw (eq-eqb _ _ u, eq-eqb _ _ e)

  test-not : (c : ℕ) → (Used p c → p.sequences c % 64 ≡ j → ⊥) → test c ≡ false
  test-not c h = bool (test c)
      (λ e. let t = both _ _ e in absurd (h (eqb-true _ _ t.0) (eqb-true _ _ t.1)))
      (λ e. e)

  -- what is known of it on any page
  pub cell-le : cell_of p j ≤ 64
  unfolding cell_of
  cell-le = (first-is test 64 0).top

  pub cell-used : cell_of p j < 64 → Used p (cell_of p j) × (p.sequences (cell_of p j) % 64 ≡ j)
  unfolding cell_of
  cell-used l = let t = both _ _ ((first-is test 64 0).held l) in (eqb-true _ _ t.0, eqb-true _ _ t.1)

  -- none is in use at the position
  pub cell-none : ((c : ℕ) → c < 64 → Used p c → p.sequences c % 64 ≡ j → ⊥) → cell_of p j ≡ 64
  unfolding cell_of
  cell-none h = sym (first-eq test 64 0 64 (record {
    from = omega arith;
    top = omega arith;
    held = λ l. absurd (omega arith);
    none = λ c a l. test-not c (h c l);
  }))

  -- the only one in use at the position
  pub cell-only : (c : ℕ) → c < 64 → Used p c → p.sequences c % 64 ≡ j
      → ((d : ℕ) → d < 64 → Used p d → p.sequences d % 64 ≡ j → d ≡ c) → cell_of p j ≡ c
  unfolding cell_of
  cell-only c l u e h = sym (first-eq test 64 0 c (record {
    from = omega arith;
    top = omega arith;
    held = λ m. test-is c u e;
    none = λ d a m. test-not d (λ v q. omega (arith, h d (omega arith) v q));
  }))

module _ (n : ℕ) (p : Page) (ok : Placed n p) where
  pub cell_at : (c j : ℕ) → c < 64 → Used p c → p.sequences c % 64 ≡ j → cell_of p j ≡ c
  cell_at c j l u e = cell-only p j c l u e (λ d m v q. ok.once d c m l v u (q ∙ sym e))

  -- occupied says whether there is one
  pub cell-some : (j : ℕ) → j < 64 → bit_at p.occupied j ≡ 1 → cell_of p j < 64
  cell-some j l b = let f = ok.filled_by j l b in rw (cell_at f.0 j f.1 f.2 f.3) f.1

  pub cell_free : (j : ℕ) → bit_at p.occupied j ≡ 0 → cell_of p j ≡ 64
  cell_free j z = cell-none p j (λ c l u e. omega (arith, ok.named c l u, ap (bit_at p.occupied) e))

  pub cell-occupied : (j : ℕ) → cell_of p j < 64 → bit_at p.occupied j ≡ 1
  cell-occupied j l = let u = cell-used p j l in ap (bit_at p.occupied) (sym u.1) ∙ ok.named (cell_of p j) l u.0

  -- a cell in use on a page that is not dense is one of the first n
  pub few-cells : (p.kind ≡ 2 → ⊥) → (c : ℕ) → c < 64 → Used p c → c < n
  few-cells k c l u = elim (ℕ_discrete p.kind 1) [
    | yes e ↦ ok.sparse e c l u
    | no e ↦ absurd (omega (arith, u, ap (λ (w : ℕ). bit_at w c) (ok.none_filled (omega (arith, ok.kinds))), bit-none c))
  ]

-- ---- a cell taken out of use

module _ (n : ℕ) (p : Page) (ok : Placed n p) (c : ℕ) (l : c < 64) (u : Used p c) where
  at : ℕ
  at = p.sequences c % 64

  at_lt : p.sequences c % 64 < 64
  at_lt = omega arith

  still : (d : ℕ) → Used (take_cell_of p c) d → Used p d × (d ≡ c → ⊥)
  still d v =
      let q : d ≡ c → ⊥ = λ e. omega (arith, with-same p.filled c 0 (omega arith), ap (bit_at (clear_bit p.filled c)) e) in
      (sym (with-other p.filled c 0 d (omega arith) q) ∙ v, q)

  pub take-placed : Placed n (take_cell_of p c)
  take-placed = record {
    kinds = ok.kinds;
    none_occupied = λ e. absurd (omega (arith, ap (λ (w : ℕ). bit_at w c) (ok.none_filled e), bit-none c));
    none_filled = λ e. absurd (omega (arith, ap (λ (w : ℕ). bit_at w c) (ok.none_filled e), bit-none c));
    named = λ d m v.
        let s = still d v in
        with-other p.occupied (p.sequences c % 64) 0 (p.sequences d % 64) (omega arith) (λ e. s.1 (ok.once d c m l s.0 u e)) ∙ ok.named d m s.0;
    filled_by = λ j m b.
        let q : j ≡ p.sequences c % 64 → ⊥ = λ e. omega (arith, with-same p.occupied (p.sequences c % 64) 0 (omega arith), ap (bit_at (clear_bit p.occupied (p.sequences c % 64))) e) in
        let f = ok.filled_by j m (sym (with-other p.occupied (p.sequences c % 64) 0 j (omega arith) q) ∙ b) in
        let d = f.0 in
        (d, f.1, with-other p.filled c 0 d (omega arith) (λ e. q (sym f.3 ∙ ap (λ (x : ℕ). p.sequences x % 64) e)) ∙ f.2, f.3);
    once = λ a b m k v w e. ok.once a b m k (still a v).0 (still b w).0 e;
    sparse = λ e d m v. ok.sparse e d m (still d v).0;
    dense_filled = λ e. ap (λ (x : ℕ). clear_bit p.filled x) (sym (ok.dense_cells e c l u)) ∙ ap (λ (x : ℕ). clear_bit x (p.sequences c % 64)) (ok.dense_filled e);
    dense_cells = λ e d m v. ok.dense_cells e d m (still d v).0;
    occupied_fits = with-lt 64 p.occupied (p.sequences c % 64) 0 ok.occupied_fits at_lt (omega arith);
    filled_fits = with-lt 64 p.filled c 0 ok.filled_fits l (omega arith);
  }

-- ---- as many cells in use as positions occupied

none_occupied : (n : ℕ) (p : Page) → Placed n p → p.filled ≡ 0 → p.occupied ≡ 0
none_occupied n p ok e = ext-bits 64 p.occupied 0 ok.occupied_fits (omega arith) (λ j l. empty j l ∙ sym (bit-none j))
  where
    empty : (j : ℕ) → j < 64 → bit_at p.occupied j ≡ 0
    empty j l =
        elim (ℕ_discrete (bit_at p.occupied j) 1) [
          | yes b ↦ let f = ok.filled_by j l b in absurd (omega (arith, f.2, ap (λ (w : ℕ). bit_at w f.0) e, bit-none f.0))
          | no b ↦ omega (arith, bit-lt p.occupied j)
        ]

same_count : (n k : ℕ) (p : Page) → Placed n p → count p.filled ≡ k → count p.occupied ≡ k
same_count n zero p ok e =
    ap count (none_occupied n p ok (count-zero 64 p.filled ok.filled_fits e)) ∙ count_none 64
same_count n (suc k) p ok e =
    let some : p.filled ≡ 0 → ⊥ = λ z. omega (arith, ap count z, count_none 64) in
    let c = lowest p.filled 0 in
    let l = lowest-some p.filled ok.filled_fits some in
    let u = (lowest-is p.filled 0 (omega arith)).held l in
    let j = p.sequences c % 64 in
    let i = same_count n k (take_cell_of p c) (take-placed n p ok c l u) (omega (arith, count-clear 64 p.filled c l u)) in
    omega (arith, i, count-clear 64 p.occupied j (omega arith) (ok.named c l u))

pub placed-count : (n : ℕ) (p : Page) → Placed n p → count p.occupied ≡ count p.filled
placed-count n p ok = same_count n (count p.filled) p ok refl

-- it holds a value just if the number of its values is not 0
pub placed-holds : (n : ℕ) (p : Page) → Placed n p → holds_value p ≡ not (eqb (values_in_of p) 0)
placed-holds n p ok =
    elim (ℕ_discrete p.occupied 0) [
      | yes z ↦ rw (eq-eqb p.occupied 0 z, eq-eqb (values_in_of p) 0 (ap count z ∙ count_none 64))
      | no z ↦ rw (ne_eqb p.occupied 0 z, ne_eqb (values_in_of p) 0 (λ e. z (count-zero 64 p.occupied ok.occupied_fits e)))
    ]
