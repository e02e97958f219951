-- The search for a cell, and what is found, over plain variables. Assumes nothing.
use mathlib.Core.Path.{◌≡◌, refl, sym, ap, ◌∙◌}
use Rattle.std.specs.Prelude.{Option, None, Some, IfSome, unwrap_or}
use mathlib.Core.Bool.{true, false, true≢false}
use mathlib.Core.List.{List}
use Prim.Native.Nat.{ℕ, ◌%◌, ◌≤◌, ◌<◌}
use native.Mathlib.Nat.{le_refl}
use native.Mathlib.Omega.{arith}
use lib.ListN.{get_or}
use borrow.Author.Tests.{eq-eqb, ne_eqb, eqb-true, eqb-false, lt-ltb}
use Rattle.words.proofs.CaseLaws.{bool, both}
use Rattle.words.specs.First.{first_from_of}
use Rattle.words.proofs.FirstLaws.{first-is}
use Rattle.words.specs.Word.{bit_at, is_set}
use Rattle.words.proofs.BitLaws.{bit-lt}
use Rattle.model.specs.Window.{Page, cell_of}
use Rattle.page_base.specs.declared.PageWords.{PageWords}
use Rattle.page_base.specs.Page.{is_at, page, Placed}
use Rattle.page_base.specs.Promises.{cell_with}
use Rattle.page_base.proofs.PartLaws.{cell_in}
use Rattle.page_base.proofs.PlaceLaws.{cell_at, cell_free, cell-none, few-cells}

module _ (ss : List ℕ) (filled j : ℕ) where
  -- the test, from what the code finds
  pub at-yes : (c : ℕ) → c < 64 → bit_at filled c ≡ 1 → get_or ss c 0 % 64 ≡ j → is_at ss filled j c ≡ true
  unfolding is_at
  at-yes c l u e = rw (eq-eqb _ _ u, cell_in ss c l, eq-eqb _ _ e)

  pub at-free : (c : ℕ) → (bit_at filled c ≡ 1 → ⊥) → is_at ss filled j c ≡ false
  unfolding is_at
  at-free c u = rw (ne_eqb _ _ u)

  pub at_other : (c : ℕ) → c < 64 → (get_or ss c 0 % 64 ≡ j → ⊥) → is_at ss filled j c ≡ false
  unfolding is_at
  at_other c l e = rw (cell_in ss c l, ne_eqb (get_or ss c 0 % 64) j e) (bool (is_set filled c) (λ q. rw q) (λ q. rw q))

  -- the first of the first n: it holds the position if it is one of them, and no cell before it does
  pub first_cell : (n : ℕ) → n ≤ 64
      → (first_from_of (is_at ss filled j) n 0 ≤ n)
      × (first_from_of (is_at ss filled j) n 0 < n → is_at ss filled j (first_from_of (is_at ss filled j) n 0) ≡ true)
      × ((k : ℕ) → k < first_from_of (is_at ss filled j) n 0 → bit_at filled k ≡ 1 → get_or ss k 0 % 64 ≡ j → ⊥)
  first_cell n l =
      let f = first-is (is_at ss filled j) n 0 in (
        omega (arith, f.top),
        λ h. f.held (omega arith),
        λ k h u e. true≢false (sym (at-yes k (omega (arith, f.top)) u e) ∙ f.none k (omega arith) h),
      )

-- what the tactics know of the search
pub ruleset seeking = (at-free, at_other, first_cell)

-- ---- the cell of a position, on a page whose values are in their places

module _ (n : ℕ) (w : PageWords) (ss vs : List ℕ) (ok : Placed n (page w ss vs)) (j : ℕ) (l : j < 64) where
  abbrev here : Page
  here = page w ss vs

  pub dense-slot : w.kind ≡ 2 → is_set w.filled j ≡ true → j ≡ cell_of (page w ss vs) j
  dense-slot k t = let u = eqb-true _ _ t in sym (cell_at n here ok j j l u (ok.dense_cells k j l u))

  free-cell : bit_at w.occupied j ≡ 0 → 64 ≡ cell_of (page w ss vs) j
  free-cell z = sym (cell_free n here ok j z)

  pub free-slot : is_set w.occupied j ≡ false → 64 ≡ cell_of (page w ss vs) j
  free-slot t = free-cell (omega (arith, bit-lt w.occupied j, eqb-false _ _ t))

  pub dense-free : w.kind ≡ 2 → is_set w.filled j ≡ false → 64 ≡ cell_of (page w ss vs) j
  dense-free k t = free-cell (omega (arith, bit-lt w.occupied j, ap (λ (x : ℕ). bit_at x j) (ok.dense_filled k), eqb-false _ _ t))

  -- what the search of the first n cells finds
  pub sparse-slot : n < 64 → (c : ℕ) → c ≡ first_from_of (is_at ss w.filled j) n 0 → c < n → c ≡ cell_of (page w ss vs) j
  unfolding is_at
  sparse-slot m c e h =
      let f = first-is (is_at ss w.filled j) n 0 in
      let t = both _ _ (ap (is_at ss w.filled j) e ∙ f.held (omega arith)) in
      sym (cell_at n here ok c j (omega arith) (eqb-true _ _ t.0) (eqb-true _ _ t.1))

  pub sparse-none : (w.kind ≡ 2 → ⊥) → (c : ℕ) → c ≡ first_from_of (is_at ss w.filled j) n 0 → n ≤ c → 64 ≡ cell_of (page w ss vs) j
  unfolding is_at
  sparse-none k c e h =
      let f = first-is (is_at ss w.filled j) n 0 in
      sym (cell-none here j (λ d m u q.
      true≢false (sym (rw (eq-eqb _ _ u, eq-eqb _ _ q) refl) ∙ f.none d (omega arith) (omega (arith, few-cells n here ok k d m u)))))

  pub sparse-found : (w.kind ≡ 2 → ⊥) → n < 64 → (r : Option ℕ) → IfSome r (λ c. c < n)
      → unwrap_or r n ≡ first_from_of (is_at ss w.filled j) n 0 → unwrap_or r 64 ≡ cell_of (page w ss vs) j
  sparse-found k m (Some c) h e = sparse-slot m c e h
  sparse-found k m None h e = sparse-none k n e (le_refl n)

-- ---- the cell that holds a sequence

module _ (p : Page) (s : ℕ) where
  pub held : (c : ℕ) → c ≡ cell_of p (s % 64) → c < 64 → p.sequences c ≡ s → c ≡ cell_with p s
  unfolding cell_with
  held c e l q = rw (sym e, lt-ltb c 64 l, eq-eqb _ _ q)

  -- another sequence in the cell of the position, or no cell
  pub held_other : (c : ℕ) → c ≡ cell_of p (s % 64) → c < 64 → (p.sequences c ≡ s → ⊥) → 64 ≡ cell_with p s
  unfolding cell_with
  held_other c e l q = rw (sym e, lt-ltb c 64 l, ne_eqb _ _ q)

  pub held_none : 64 ≡ cell_of p (s % 64) → 64 ≡ cell_with p s
  unfolding cell_with
  held_none e = rw (sym e)
