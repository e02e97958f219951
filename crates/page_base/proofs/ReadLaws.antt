-- What the cell that holds a sequence gives: the answer of a read, and the page after an exchange. Assumes nothing.
use mathlib.Core.Path.{◌≡◌, sym, ap, ◌∙◌}
use mathlib.Core.Bool.{Bool, true, false, true≢false}
use Prim.Native.Nat.{ℕ, ◌%◌, ◌≤◌, ◌<◌}
use native.Mathlib.Omega.{arith}
use native.Mathlib.Decide.{dec_lt}
use lib.Dec.{eqb}
use borrow.Author.Tests.{lt-ltb, le-ltb, eq-eqb, eqb-true}
use Rattle.words.proofs.CaseLaws.{bool}
use Rattle.model.specs.Calls.{absent, found}
use Rattle.model.specs.Table.{finds}
use Rattle.model.specs.Window.{Page, cell_of, stands_at}
use Rattle.model.specs.Pages.{set_value}
use Rattle.model.specs.Sound.{Used}
use Rattle.page_base.proofs.PlaceLaws.{cell-used}
use Rattle.page_base.specs.Promises.{cell_with, read_of, exchanged}

-- cell c holds sequence s
pub record Found (p : Page) (s c : ℕ) : Type 0 where
  pub inside : c < 64
  pub used : Used p c
  pub sequence : p.sequences c ≡ s

module _ (p : Page) (s : ℕ) where
  pub found-cell : finds s (stands_at p (s % 64)) ≡ true → Found p s (cell_of p (s % 64))
  found-cell t = elim (dec_lt (cell_of p (s % 64)) 64) [
    | yes l ↦ record { inside = l; used = (cell-used p (s % 64) l).0; sequence = eqb-true _ _ (rw (lt-ltb (cell_of p (s % 64)) 64 l) at t) }
    | no l ↦ absurd (true≢false (sym (rw (le-ltb (cell_of p (s % 64)) 64 (omega arith)) at t)))
  ]

  -- the same test at a position that is the sequence's
  pub finds-at : (b : Bool) → finds s (stands_at p (s % 64)) ≡ b → (j : ℕ) → j ≡ s % 64 → finds s (stands_at p j) ≡ b
  finds-at b t j e = ap (λ (x : ℕ). finds s (stands_at p x)) e ∙ t

  -- found
  pub with_cell : (c : ℕ) → c ≡ cell_with p s → c < 64 → (c ≡ cell_of p (s % 64)) × (p.sequences c ≡ s) × (finds s (stands_at p (s % 64)) ≡ true)
  unfolding cell_with
  with_cell c e l = bool (finds s (stands_at p (s % 64)))
      (λ t. let h = found-cell t in let q : c ≡ cell_of p (s % 64) = rw t at e in (q, ap p.sequences q ∙ h.sequence, t))
      (λ t. absurd (omega (arith, rw t at e)))

  pub with_read : (c : ℕ) → c ≡ cell_with p s → c < 64 → found (p.values c) ≡ read_of p s
  with_read c e l =
      let t = with_cell c e l in
      rw (sym t.0, lt-ltb c 64 l, eq-eqb _ _ t.1)

  pub with-exchanged : (c v : ℕ) → c ≡ cell_with p s → c < 64 → set_value p c v ≡ exchanged p s v
  unfolding exchanged
  with-exchanged c v e l = let t = with_cell c e l in rw (t.2, sym t.0)

  -- not found
  pub without-cell : (c : ℕ) → c ≡ cell_with p s → 64 ≤ c → finds s (stands_at p (s % 64)) ≡ false
  unfolding cell_with
  without-cell c e l = bool (finds s (stands_at p (s % 64)))
      (λ t. let q : c ≡ cell_of p (s % 64) = rw t at e in absurd (omega (arith, (found-cell t).inside)))
      (λ t. t)

  unread : finds s (stands_at p (s % 64)) ≡ false → absent ≡ read_of p s
  unread t = elim (dec_lt (cell_of p (s % 64)) 64) [
    | yes l ↦
        let q : eqb (p.sequences (cell_of p (s % 64))) s ≡ false = rw (lt-ltb (cell_of p (s % 64)) 64 l) at t in
        rw (lt-ltb (cell_of p (s % 64)) 64 l, q)
    | no l ↦ rw (le-ltb (cell_of p (s % 64)) 64 (omega arith))
  ]

  pub without-read : (c : ℕ) → c ≡ cell_with p s → 64 ≤ c → absent ≡ read_of p s
  without-read c e l = unread (without-cell c e l)

  pub without-exchanged : (c v : ℕ) → c ≡ cell_with p s → 64 ≤ c → p ≡ exchanged p s v
  unfolding exchanged
  without-exchanged c v e l = rw (without-cell c e l)
