-- What stands at a position of a page whose values are in their places. Assumes nothing.
use mathlib.Core.Path.{◌≡◌, sym, ap, ◌∙◌}
use mathlib.Core.Option.{none, some}
use Prim.Native.Nat.{ℕ, ◌%◌, ◌<◌}
use native.Mathlib.Omega.{arith}
use native.Mathlib.Decide.{ℕ_discrete}
use borrow.Author.Tests.{eq-eqb, ne_eqb, lt-ltb}
use Rattle.words.specs.Word.{bit_at, is_set}
use Rattle.words.proofs.BitLaws.{bit-lt}
use Rattle.model.specs.Table.{pair_of, holds}
use Rattle.model.specs.Window.{Page, cell_of, pair_in, stands_at}
use Rattle.model.specs.Sound.{Used}
use Rattle.page_base.specs.Page.{Placed}
use Rattle.page_base.proofs.PlaceLaws.{cell_at, cell-some, cell_free, cell-used}

-- ---- from its cell, on any page

pub stands-in : (p : Page) (j c : ℕ) → cell_of p j ≡ c → c < 64 → stands_at p j ≡ some (pair_in p c)
stands-in p j c e l = rw (e, lt-ltb c 64 l)

pub stands-out : (p : Page) (j : ℕ) → cell_of p j ≡ 64 → stands_at p j ≡ none
stands-out p j e = rw e

-- ---- what stands at a position, by occupied

module _ (n : ℕ) (p : Page) (ok : Placed n p) where
  pub stands-cell : (c j : ℕ) → c < 64 → Used p c → p.sequences c % 64 ≡ j → stands_at p j ≡ some (pair_in p c)
  stands-cell c j l u e = rw (cell_at n p ok c j l u e, lt-ltb c 64 l)

  pub stands-none : (j : ℕ) → bit_at p.occupied j ≡ 0 → stands_at p j ≡ none
  stands-none j z = rw (cell_free n p ok j z)

  pub stands-some : (j : ℕ) → j < 64 → bit_at p.occupied j ≡ 1 → stands_at p j ≡ some (pair_in p (cell_of p j))
  stands-some j l b = rw (lt-ltb (cell_of p j) 64 (cell-some n p ok j l b))

  pub stands-held : (j : ℕ) → j < 64 → holds (stands_at p j) ≡ is_set p.occupied j
  stands-held j l =
      elim (ℕ_discrete (bit_at p.occupied j) 1) [
        | yes b ↦ ap holds (stands-some j l b) ∙ sym (eq-eqb (bit_at p.occupied j) 1 b)
        | no b ↦ ap holds (stands-none j (omega (arith, bit-lt p.occupied j))) ∙ sym (ne_eqb (bit_at p.occupied j) 1 b)
      ]

-- a pair of one page is in a page q too
pub record In (q : Page) (s v : ℕ) : Type 0 where
  pub cell : ℕ
  pub inside : cell < 64
  pub used : Used q cell
  pub sequence : q.sequences cell ≡ s
  pub value : q.values cell ≡ v

-- two pages with the same occupied bit, where each pair of the one at the position is in the other
pub stands_same : (n m j : ℕ) (p q : Page) → Placed n p → Placed m q → j < 64 → bit_at q.occupied j ≡ bit_at p.occupied j
    → ((c : ℕ) → c < 64 → Used p c → p.sequences c % 64 ≡ j → In q (p.sequences c) (p.values c)) → stands_at q j ≡ stands_at p j
stands_same n m j p q a b l e h =
    elim (ℕ_discrete (bit_at p.occupied j) 1) [
      | yes z ↦
          let c = cell_of p j in
          let u = cell-used p j (cell-some n p a j l z) in
          let i = h c (cell-some n p a j l z) u.0 u.1 in
          stands-cell m q b i.cell j i.inside i.used (ap (λ (x : ℕ). x % 64) i.sequence ∙ u.1)
          ∙ (λ k. some (pair_of (i.sequence k) (i.value k))) ∙ sym (stands-some n p a j l z)
      | no z ↦
          let f : bit_at p.occupied j ≡ 0 = omega (arith, bit-lt p.occupied j) in
          stands-none m q b j (e ∙ f) ∙ sym (stands-none n p a j f)
    ]
