-- The cases of an insert: what it leaves in each, and that a page whose values are in their places is never found unsound.
-- Assumes nothing.
use mathlib.Core.Path.{◌≡◌, ap}
use mathlib.Core.Bool.{true, false}
use Prim.Native.Nat.{ℕ, ◌%◌, ◌≤◌, ◌<◌}
use native.Mathlib.Omega.{arith}
use borrow.Author.Tests.{eq-eqb, ne_eqb, lt-ltb, le-ltb}
use Rattle.words.specs.Word.{count, span}
use Rattle.model.specs.Calls.{new, replaced, refused}
use Rattle.model.specs.Window.{Page, cell_of}
use Rattle.model.specs.Pages.{inserted, put_cell, set_value, free_cell_of, promoted, insert_over, insert_new_of, insert_page}
use Rattle.page_base.specs.Page.{Placed}
use Rattle.page_base.proofs.PlaceLaws.{few-cells, placed-count}
use Rattle.page_insert.specs.Insert.{free_of}
use Rattle.page_insert.proofs.FreeLaws.{free-below, full-span}

module _ (p : Page) (s v : ℕ) where
  -- ---- at an occupied position

  pub over-same : (c : ℕ) (q : Page) → p.sequences c ≡ s → q ≡ set_value p c v → inserted q (replaced (p.values c)) false ≡ insert_over p c s v
  over-same c q e h = rw (eq-eqb _ _ e) (ap (λ (r : Page). inserted r (replaced (p.values c)) false) h)

  pub over-other : (c : ℕ) → (p.sequences c ≡ s → ⊥) → inserted p (refused 4) false ≡ insert_over p c s v
  over-other c e = rw (ne_eqb (p.sequences c) s e)

  -- ---- at a free position

  module _ (n : ℕ) where
    pub new-dense : (q : Page) → p.kind ≡ 2 → q ≡ put_cell p 2 (s % 64) s v → inserted q new false ≡ insert_new_of n p s v
    new-dense q k h = rw (eq-eqb _ _ k) (ap (λ (r : Page). inserted r new false) h)

    pub new-sparse : (q : Page) → (p.kind ≡ 2 → ⊥) → count p.occupied < n → q ≡ put_cell p 1 (free_of p.filled) s v
        → inserted q new false ≡ insert_new_of n p s v
    unfolding free_cell_of free_of
    new-sparse q k m h = rw (ne_eqb p.kind 2 k, lt-ltb _ _ m) (ap (λ (r : Page). inserted r new false) h)

    pub new-promoted : (q : Page) → (p.kind ≡ 2 → ⊥) → n ≤ count p.occupied → q ≡ put_cell (promoted p) 2 (s % 64) s v
        → inserted q new true ≡ insert_new_of n p s v
    new-promoted q k m h = rw (ne_eqb p.kind 2 k, le-ltb _ _ m) (ap (λ (r : Page). inserted r new true) h)

    -- ---- either of them

    pub page-over : (c : ℕ) → c ≡ cell_of p (s % 64) → c < 64 → insert_over p c s v ≡ insert_page n p s v
    unfolding insert_page
    page-over c e l = rw (← e, lt-ltb c 64 l)

    pub page-new : (c : ℕ) → c ≡ cell_of p (s % 64) → 64 ≤ c → insert_new_of n p s v ≡ insert_page n p s v
    unfolding insert_page
    page-new c e l = rw (← e, le-ltb c 64 l)

-- ---- a page whose values are in their places is never found unsound

module _ (n : ℕ) (p : Page) (ok : Placed n p) where
  -- with fewer than m values, one of the first m cells is not in use
  pub some-free : (m : ℕ) → m ≤ 64 → count p.occupied < m → free_of p.filled < m
  some-free m l h = free-below p.filled m l (omega (arith, placed-count n p ok))

  -- a page that is not dense and has n values: its first n cells are in use
  pub first-cells : n < 64 → (p.kind ≡ 2 → ⊥) → n ≤ count p.occupied → p.filled ≡ span 0 n
  first-cells l k m = full-span n p.filled (omega arith) ok.filled_fits (few-cells n p ok k) (omega (arith, placed-count n p ok))
