-- The cells in use and the positions that hold a pair correspond one to one, so any weight of their pairs is the same: in a page, and
-- over the pages of a window that are counted. Assumes nothing.
use mathlib.Core.Path.{◌≡◌, refl, sym, ◌∙◌}
use mathlib.Core.Bool.{Bool, true, cond, ◌&&◌}
use mathlib.Core.Option.{none}
use Prim.Native.Nat.{ℕ, ◌+◌, ◌*◌, ◌/◌, ◌%◌, ◌<◌}
use native.Mathlib.Omega.{arith}
use lib.Dec.{ltb, eqb}
use borrow.Author.Tests.{eq-eqb, ne_eqb, eqb-true, ltb-true, ltb-false}
use Rattle.words.proofs.CaseLaws.{bool, both}
use Rattle.words.specs.Word.{is_set}
use Rattle.model.specs.Table.{Pair, Table, sum}
use Rattle.model.specs.Window.{Page, Window, cell_of, pair_in, stands_at, in_use, cell_pair}
use Rattle.page_base.specs.Page.{Placed}
use Rattle.page_base.proofs.PlaceLaws.{cell-used, cell_at}
use Rattle.laws_soundness.proofs.SumLaws.{sum_same, sum-none, sum-blocks}
use Rattle.laws_refinement.proofs.WeightLaws.{sum-only, sum-swap, weighed}

-- ---- a page

-- the weight of the pair in cell c, if the cell is in use
abbrev pub cell_weight : (Pair → ℕ) → Page → ℕ → ℕ
cell_weight f p c = cond (is_set p.filled c) (f (pair_in p c)) 0

module _ (n : ℕ) (p : Page) (ok : Placed n p) (f : Pair → ℕ) where
  abbrev is_for : ℕ → ℕ → Bool
  is_for c j = is_set p.filled c && eqb (p.sequences c % 64) j

  -- the same, if its sequence is at position j
  abbrev share : ℕ → ℕ → ℕ
  share c j = cond (is_for c j) (f (pair_in p c)) 0

  for-one : (c j : ℕ) → c < 64 → is_for c j ≡ true → cell_of p j ≡ c
  for-one c j l e = let t = both _ _ e in cell_at n p ok c j l (eqb-true _ _ t.0) (eqb-true _ _ t.1)

  by-cell : (c : ℕ) → sum 64 (λ (j : ℕ). share c j) ≡ cell_weight f p c
  by-cell c =
      bool (is_set p.filled c)
      (λ u. sum-only 64 (λ (j : ℕ). share c j) (p.sequences c % 64) (omega arith) (λ j l d. rw (u, ne_eqb (p.sequences c % 64) j (λ e. d (sym e))))
      ∙ rw (u, eq-eqb (p.sequences c % 64) (p.sequences c % 64) refl))
      (λ u. sum-none 64 (λ (j : ℕ). share c j) (λ j l. rw u) ∙ rw u)

  by-position : (j : ℕ) → sum 64 (λ (c : ℕ). share c j) ≡ weighed f (stands_at p j)
  by-position j =
      bool (ltb (cell_of p j) 64)
      (λ t.
      let l = ltb-true (cell_of p j) 64 t in
      let u = cell-used p j l in
      sum-only 64 (λ (c : ℕ). share c j) (cell_of p j) l
      (λ c m d. bool (is_for c j) (λ e. absurd (d (sym (for-one c j m e)))) (λ e. rw e))
      ∙ rw (t, eq-eqb _ _ u.0, eq-eqb _ _ u.1))
      (λ t.
      sum-none 64 (λ (c : ℕ). share c j)
      (λ c m. bool (is_for c j) (λ e. absurd (omega (arith, ltb-false (cell_of p j) 64 t, for-one c j m e))) (λ e. rw e))
      ∙ rw t)

  pub page-weights : sum 64 (cell_weight f p) ≡ sum 64 (λ (j : ℕ). weighed f (stands_at p j))
  page-weights =
      sum_same 64 (cell_weight f p) (λ (c : ℕ). sum 64 (λ (j : ℕ). share c j)) (λ c l. sym (by-cell c))
      ∙ sum-swap 64 64 share
      ∙ sum_same 64 (λ (j : ℕ). sum 64 (λ (c : ℕ). share c j)) (λ (j : ℕ). weighed f (stands_at p j)) (λ j l. by-position j)

-- ---- the pages of a window that are counted

module _ (w : Window) (counted : ℕ → Bool) where
  -- what stands at the positions of the counted pages
  abbrev pub counted_at : Table
  counted_at q = cond (counted (q / 64)) (stands_at (w.pages (q / 64)) (q % 64)) none

  -- the weight of the pair in cell q of the window, if the cell is in use on a counted page
  abbrev pub counted_cell : (Pair → ℕ) → ℕ → ℕ
  counted_cell f q = cond (in_use w q && counted (q / 64)) (f (cell_pair w q)) 0

  module _ (n pages : ℕ) (ok : (g : ℕ) → Placed n (w.pages g)) (f : Pair → ℕ) where
    cell-here : (g i : ℕ) → i < 64 → counted_cell f (64 * g + i) ≡ cond (counted g) (cell_weight f (w.pages g) i) 0
    cell-here g i l =
        let a : (64 * g + i) / 64 ≡ g = omega arith in
        let b : (64 * g + i) % 64 ≡ i = omega arith in
        rw (a, b) (bool (is_set (w.pages g).filled i) (λ u. rw u) (λ u. rw u (bool (counted g) (λ t. rw t) (λ t. rw t))))

    position_here : (g i : ℕ) → i < 64 → weighed f (counted_at (64 * g + i)) ≡ weighed f (cond (counted g) (stands_at (w.pages g) i) none)
    position_here g i l =
        let a : (64 * g + i) / 64 ≡ g = omega arith in
        let b : (64 * g + i) % 64 ≡ i = omega arith in
        rw (a, b)

    on-page : (g : ℕ) → sum 64 (λ (i : ℕ). counted_cell f (64 * g + i)) ≡ sum 64 (λ (i : ℕ). weighed f (counted_at (64 * g + i)))
    on-page g =
        let cell : ℕ → ℕ = λ i. counted_cell f (64 * g + i) in
        let position : ℕ → ℕ = λ i. weighed f (counted_at (64 * g + i)) in
        bool (counted g)
        (λ t.
        sum_same 64 cell (cell_weight f (w.pages g)) (λ i l. cell-here g i l ∙ rw t)
        ∙ page-weights n (w.pages g) (ok g) f
        ∙ sum_same 64 (λ (j : ℕ). weighed f (stands_at (w.pages g) j)) position (λ i l. sym (position_here g i l ∙ rw t)))
        (λ t. sum-none 64 cell (λ i l. cell-here g i l ∙ rw t) ∙ sym (sum-none 64 position (λ i l. position_here g i l ∙ rw t)))

    pub window-weights : (cap : ℕ) → cap ≡ 64 * pages → sum cap (counted_cell f) ≡ sum cap (λ (q : ℕ). weighed f (counted_at q))
    window-weights cap e =
        rw e (
        sum-blocks pages (counted_cell f)
        ∙ sum_same pages (λ (g : ℕ). sum 64 (λ (i : ℕ). counted_cell f (64 * g + i))) (λ (g : ℕ). sum 64 (λ (i : ℕ). weighed f (counted_at (64 * g + i)))) (λ g l. on-page g)
        ∙ sym (sum-blocks pages (λ (q : ℕ). weighed f (counted_at q)))
        )
