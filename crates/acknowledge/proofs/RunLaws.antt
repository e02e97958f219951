-- The live sequences of one page, over plain variables: the mask of a sparse page by a pass over its cells, and what a run over cells or
-- over the mask says of what stands at the positions. Assumes nothing.
use Rattle.std.proofs.Common.{◌≡◌, ℕ, ◌+◌, ◌-◌, ◌*◌, ◌/◌, ◌%◌, ◌^◌, ◌<◌, ◌≤◌, true, false, List, get_or, sym, ap, ◌∙◌, arith, eq-eqb}
use borrow.Author.Tests.{eqb-false}
use native.Mathlib.Decide.{ℕ_discrete}
use Rattle.words.proofs.CaseLaws.{bool}
use Rattle.words.specs.Word.{bit_at, is_set, set_bit, lowest}
use Rattle.words.proofs.BitLaws.{bit-lt, bit-none, bit_not}
use Rattle.words.proofs.ChangeLaws.{with-same, with-other}
use Rattle.words.proofs.LowestLaws.{Lowest, lowest-is}
use Rattle.model.specs.Table.{finds}
use Rattle.model.specs.Window.{Page, cell_of, stands_at}
use Rattle.page_base.specs.declared.PageWords.{PageWords}
use Rattle.page_base.specs.Page.{page, Placed}
use Rattle.page_base.proofs.PartLaws.{cell_in}
use Rattle.page_base.proofs.PlaceLaws.{few-cells}
use Rattle.page_base.proofs.StandLaws.{stands-cell, stands-none}
use Rattle.page_base.proofs.ReadLaws.{found-cell}
use Rattle.acknowledge.specs.Promises.{InRow, DenseRun, Masks, Runs}

-- a bit that is not set is 0
clear-bit : (w k : ℕ) → is_set w k ≡ false → bit_at w k ≡ 0
clear-bit w k e = omega (arith, eqb-false _ _ e, bit-lt w k)

-- ---- the cells of a dense page

-- one more
pub row_more : (ss : List ℕ) (filled row slot c : ℕ) → ((k : ℕ) → slot ≤ k → k < c → InRow ss filled row k) → InRow ss filled row c
    → (k : ℕ) → slot ≤ k → k < c + 1 → InRow ss filled row k
row_more ss filled row slot c before own k a b = elim (ℕ_discrete k c) [ yes e ↦ rw e own | no e ↦ before k a (omega arith) ]

-- the cells in use from `slot` on, up to the first that is not
module _ (filled slot end : ℕ) (fits : filled < 2 ^ 64) (l : slot < 64) (e : end ≡ lowest ((2 ^ 64 - 1) - filled) slot) where
  low : Lowest ((2 ^ 64 - 1) - filled) slot (lowest ((2 ^ 64 - 1) - filled) slot)
  low = lowest-is ((2 ^ 64 - 1) - filled) slot (omega arith)

  pub end-from : slot ≤ end
  end-from = omega (arith, e, low.from)

  pub end-top : end ≤ 64
  end-top = omega (arith, e, low.top)

  pub used-before : (c : ℕ) → slot ≤ c → c < end → bit_at filled c ≡ 1
  used-before c a b = omega (arith, low.none c a (omega (arith, e)), bit_not 64 c filled fits (omega (arith, end-top)), bit-lt filled c)

  pub unused-at : end < 64 → bit_at filled end ≡ 0
  unused-at h =
      let r = lowest ((2 ^ 64 - 1) - filled) slot in
      let g : r < 64 = omega (arith, e) in
      let z : bit_at filled r ≡ 0 = omega (arith, low.held g, bit_not 64 r filled fits g, bit-lt filled r) in
      ap (bit_at filled) e ∙ z

-- ---- the mask of a sparse page

module _ (ss : List ℕ) (filled row : ℕ) where
  pub mask-none : Masks ss filled row 0 0
  mask-none = record { held = λ j l b. absurd (omega (arith, b, bit-none j)); all = λ c l i. absurd (omega arith) }

  -- no cell is in use
  pub mask-unused : (n : ℕ) → filled ≡ 0 → Masks ss filled row n 0
  mask-unused n z = record { held = λ j l b. absurd (omega (arith, b, bit-none j)); all = λ c l i. absurd (omega (arith, i.0, ap (λ (x : ℕ). bit_at x c) z, bit-none c)) }

  pub mask-skip : (n mask : ℕ) → Masks ss filled row n mask → (InRow ss filled row n → ⊥) → Masks ss filled row (n + 1) mask
  mask-skip n mask m out = record {
    held = λ j l b. let f = m.held j l b in (f.0, omega (arith, f.1), f.2, f.3);
    all = λ c l i. elim (ℕ_discrete c n) [
      | yes e ↦ absurd (out (rw e at i))
      | no e ↦ m.all c (omega arith) i
    ];
  }

  pub mask-put : (n mask : ℕ) → Masks ss filled row n mask → InRow ss filled row n → Masks ss filled row (n + 1) (set_bit mask (get_or ss n 0 % 64))
  mask-put n mask m own = record {
    held = λ j l b. elim (ℕ_discrete j (get_or ss n 0 % 64)) [
      | yes e ↦ (n, omega arith, own, sym e)
      | no e ↦ let f = m.held j l (sym (with-other mask (get_or ss n 0 % 64) 1 j (omega arith) e) ∙ b) in (f.0, omega (arith, f.1), f.2, f.3)
    ];
    all = λ c l i. elim (ℕ_discrete (get_or ss c 0 % 64) (get_or ss n 0 % 64)) [
      | yes e ↦ ap (bit_at (set_bit mask (get_or ss n 0 % 64))) e ∙ with-same mask (get_or ss n 0 % 64) 1 (omega arith)
      | no e ↦ with-other mask (get_or ss n 0 % 64) 1 (get_or ss c 0 % 64) (omega arith) e ∙ m.all c (before c l e) i
    ];
  }
    where
      before : (c : ℕ) → c < n + 1 → (get_or ss c 0 % 64 ≡ get_or ss n 0 % 64 → ⊥) → c < n
      before c l e = elim (ℕ_discrete c n) [ yes q ↦ absurd (e (ap (λ (x : ℕ). get_or ss x 0 % 64) q)) | no q ↦ omega arith ]

  -- one cell more, which is put in if it is in use and of the row
  pub mask-turn : (n mask next : ℕ) → Masks ss filled row n mask → (InRow ss filled row n → next ≡ set_bit mask (get_or ss n 0 % 64))
      → ((InRow ss filled row n → ⊥) → next ≡ mask) → Masks ss filled row (n + 1) next
  mask-turn n mask next m put skip = elim (ℕ_discrete (bit_at filled n) 1) [
    | yes u ↦ elim (ℕ_discrete (get_or ss n 0 / 64) row) [
      | yes r ↦ rw (put (u, r)) (mask-put n mask m (u, r))
      | no r ↦ rw (skip (λ i. r i.1)) (mask-skip n mask m (λ i. r i.1))
    ]
    | no u ↦ rw (skip (λ i. u i.0)) (mask-skip n mask m (λ i. u i.0))
  ]

-- ---- what stands at a position, on a page whose values are in their places

module _ (n : ℕ) (w : PageWords) (ss vs : List ℕ) (ok : Placed n (page w ss vs)) (row : ℕ) where
  abbrev here : Page
  here = page w ss vs

  -- the sequence asked for is in cell c
  pub stands : (c j : ℕ) → c < 64 → InRow ss w.filled row c → get_or ss c 0 % 64 ≡ j → finds (64 * row + j) (stands_at here j) ≡ true
  stands c j l i e =
      let own = cell_in ss c l in
      ap (finds (64 * row + j)) (stands-cell n here ok c j l i.0 (ap (λ (x : ℕ). x % 64) own ∙ e))
      ∙ eq-eqb (here.sequences c) (64 * row + j) (own ∙ omega (arith, i.1, e))

  -- it is in none
  pub stands-not : (j : ℕ) → j < 64 → ((c : ℕ) → c < 64 → InRow ss w.filled row c → get_or ss c 0 % 64 ≡ j → ⊥) → finds (64 * row + j) (stands_at here j) ≡ false
  stands-not j l out = bool (finds (64 * row + j) (stands_at here j))
      (λ t.
      let e : j ≡ (64 * row + j) % 64 = omega arith in
      let f = found-cell here (64 * row + j) (ap (λ (x : ℕ). finds (64 * row + j) (stands_at here x)) (sym e) ∙ t) in
      let c = cell_of here ((64 * row + j) % 64) in
      let q : get_or ss c 0 ≡ 64 * row + j = sym (cell_in ss c f.inside) ∙ f.sequence in
      absurd (out c f.inside (f.used, omega (arith, q)) (omega (arith, q))))
      (λ t. t)

  -- a dense page
  pub dense-live : w.kind ≡ 2 → (slot r : ℕ) → DenseRun ss w.filled slot row r
      → (j : ℕ) → slot ≤ j → j < r → finds (64 * row + j) (stands_at here j) ≡ true
  dense-live k slot r d j a b =
      let l : j < 64 = omega (arith, d.top) in
      let i = d.held j a b in
      stands j j l i (ap (λ (x : ℕ). x % 64) (sym (cell_in ss j l)) ∙ ok.dense_cells k j l i.0)

  pub dense-missed : w.kind ≡ 2 → (slot r : ℕ) → DenseRun ss w.filled slot row r → r < 64 → finds (64 * row + r) (stands_at here r) ≡ false
  dense-missed k slot r d l = stands-not r l (λ c h i e.
      let own : c ≡ r = sym (ap (λ (x : ℕ). x % 64) (sym (cell_in ss c h)) ∙ ok.dense_cells k c h i.0) ∙ e in
      d.missed l (rw own at i))

  -- a sparse page, or one without values
  pub sparse-live : n < 64 → (mask : ℕ) → mask < 2 ^ 64 → Masks ss w.filled row n mask → (slot : ℕ) → slot < 64
      → (j : ℕ) → slot ≤ j → j < lowest ((2 ^ 64 - 1) - mask) slot → finds (64 * row + j) (stands_at here j) ≡ true
  sparse-live few mask fits m slot l j a b =
      let low = lowest-is ((2 ^ 64 - 1) - mask) slot (omega arith) in
      let h : j < 64 = omega (arith, low.top) in
      let f = m.held j h (omega (arith, low.none j a b, bit_not 64 j mask fits h, bit-lt mask j)) in
      stands f.0 j (omega (arith, f.1)) f.2 f.3

  pub sparse-missed : (w.kind ≡ 2 → ⊥) → (mask : ℕ) → mask < 2 ^ 64 → Masks ss w.filled row n mask → (slot : ℕ) → slot < 64
      → lowest ((2 ^ 64 - 1) - mask) slot < 64
      → finds (64 * row + lowest ((2 ^ 64 - 1) - mask) slot) (stands_at here (lowest ((2 ^ 64 - 1) - mask) slot)) ≡ false
  sparse-missed k mask fits m slot l h =
      let r = lowest ((2 ^ 64 - 1) - mask) slot in
      let low = lowest-is ((2 ^ 64 - 1) - mask) slot (omega arith) in
      stands-not r h (λ c b i e.
      omega (arith, low.held h, bit_not 64 r mask fits h, m.all c (few-cells n here ok k c b i.0) i, ap (bit_at mask) e))

-- ---- a run over one page

module _ (n : ℕ) (w : PageWords) (ss : List ℕ) (slot row : ℕ) (l : slot < 64) where
  -- nothing stands at the first position
  pub run_none : is_set w.occupied slot ≡ false → Runs n w ss slot row slot
  run_none z = record {
    from = omega arith;
    top = omega arith;
    live = λ vs ok j a b. absurd (omega arith);
    missed = λ vs ok h. ap (finds (64 * row + slot)) (stands-none n (page w ss vs) ok slot (clear-bit w.occupied slot z));
  }

  pub run-dense : (r : ℕ) → w.kind ≡ 2 → DenseRun ss w.filled slot row r → Runs n w ss slot row r
  run-dense r k d = record {
    from = d.from;
    top = d.top;
    live = λ vs ok j a b. dense-live n w ss vs ok row k slot r d j a b;
    missed = λ vs ok h. dense-missed n w ss vs ok row k slot r d h;
  }

  pub run-sparse : (r mask : ℕ) → (w.kind ≡ 2 → ⊥) → n < 64 → mask < 2 ^ 64 → Masks ss w.filled row n mask → r ≡ lowest ((2 ^ 64 - 1) - mask) slot → Runs n w ss slot row r
  run-sparse r mask k few fits m e =
      let low = lowest-is ((2 ^ 64 - 1) - mask) slot (omega arith) in
      rw e (record {
        from = low.from;
        top = low.top;
        live = λ vs ok j a b. sparse-live n w ss vs ok row few mask fits m slot l j a b;
        missed = λ vs ok h. sparse-missed n w ss vs ok row k mask fits m slot l h;
      })
