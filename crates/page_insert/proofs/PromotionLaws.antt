-- Promotion: it moves no value, and its values are in their places. Assumes nothing.
use mathlib.Core.Path.{◌≡◌, refl, sym, ap, ◌∙◌}
use mathlib.Core.Option.{some}
use Prim.Native.Nat.{ℕ, ◌%◌, ◌<◌}
use native.Mathlib.Omega.{arith}
use native.Mathlib.Decide.{ℕ_discrete}
use borrow.Author.Tests.{eq-eqb}
use Rattle.words.specs.Word.{bit_at}
use Rattle.words.proofs.BitLaws.{bit-lt}
use Rattle.model.specs.Table.{Pair}
use Rattle.model.specs.Window.{Page, cell_of, pair_in, stands_at}
use Rattle.model.specs.Sound.{Used}
use Rattle.model.specs.Pages.{promoted}
use Rattle.page_base.specs.Page.{Placed, Here}
use Rattle.page_base.proofs.StandLaws.{stands-in, stands-none}
use Rattle.page_base.proofs.PlaceLaws.{cell_at, cell-some, cell-used}

module _ (n : ℕ) (p : Page) (ok : Placed n p) where
  module _ (j : ℕ) (l : j < 64) (b : bit_at p.occupied j ≡ 1) where
    inside : cell_of p j < 64
    inside = cell-some n p ok j l b

    moved-pair : pair_in (promoted p) j ≡ pair_in p (cell_of p j)
    unfolding promoted
    moved-pair = rw (eq-eqb (bit_at p.occupied j) 1 b)

    moved : (promoted p).sequences j ≡ p.sequences (cell_of p j)
    moved = ap (λ (q : Pair). q.sequence) moved-pair

    moved_at : (promoted p).sequences j % 64 ≡ j
    moved_at = ap (λ (x : ℕ). x % 64) moved ∙ (cell-used p j inside).1

  pub promoted-occupied : (promoted p).occupied ≡ p.occupied
  unfolding promoted
  promoted-occupied = refl

  pub promoted-kind : (promoted p).kind ≡ 2
  unfolding promoted
  promoted-kind = refl

  pub promoted-placed : Placed n (promoted p)
  unfolding promoted
  promoted-placed = record {
    kinds = omega arith;
    none_occupied = λ e. absurd (omega arith);
    none_filled = λ e. absurd (omega arith);
    named = λ c l u. ap (bit_at p.occupied) (moved_at c l u) ∙ u;
    filled_by = λ j l b. (j, l, b, moved_at j l b);
    once = λ c d l m u w e. sym (moved_at c l u) ∙ e ∙ moved_at d m w;
    sparse = λ e. absurd (omega arith);
    dense_filled = λ e. refl;
    dense_cells = λ e c l u. moved_at c l u;
    occupied_fits = ok.occupied_fits;
    filled_fits = ok.occupied_fits;
  }

  pub promoted-here : (cap g : ℕ) → Here cap g p → Here cap g (promoted p)
  unfolding promoted
  promoted-here cap g h c l u =
      let m = inside c l u in
      rw (moved c l u) (h (cell_of p c) m (cell-used p c m).0)

  -- promotion moves no value
  pub promoted-stands : (j : ℕ) → j < 64 → stands_at (promoted p) j ≡ stands_at p j
  promoted-stands j l = elim (ℕ_discrete (bit_at p.occupied j) 1) [
    | yes b ↦
        let u : Used (promoted p) j = ap (λ (w : ℕ). bit_at w j) (promoted-placed.dense_filled promoted-kind ∙ promoted-occupied) ∙ b in
        stands-in (promoted p) j j (cell_at n (promoted p) promoted-placed j j l u (moved_at j l b)) l
        ∙ ap (λ (q : Pair). some q) (moved-pair j l b)
        ∙ sym (stands-in p j (cell_of p j) refl (inside j l b))
    | no b ↦
        let z : bit_at p.occupied j ≡ 0 = omega (arith, bit-lt p.occupied j) in
        stands-none n (promoted p) promoted-placed j (ap (λ (w : ℕ). bit_at w j) promoted-occupied ∙ z) ∙ sym (stands-none n p ok j z)
  ]
