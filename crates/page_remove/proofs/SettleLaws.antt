-- A cell taken out, a page settled after it, and a removal, over plain variables. Assumes nothing.
use mathlib.Core.Path.{◌≡◌, sym, ap, ◌∙◌}
use mathlib.Core.Bool.{Bool, true, false}
use mathlib.Core.List.{List}
use Prim.Native.Nat.{ℕ, ◌%◌, ◌≤◌, ◌<◌}
use native.Mathlib.Omega.{arith}
use lib.Dec.{eqb}
use borrow.Author.Tests.{eq-eqb, ne_eqb, le-leb}
use Rattle.words.proofs.CaseLaws.{bool}
use Rattle.words.proofs.CountLaws.{count_none}
use Rattle.words.specs.Word.{clear_bit, count}
use Rattle.model.specs.Calls.{absent, found}
use Rattle.model.specs.Window.{Page}
use Rattle.model.specs.Pages.{words, take_cell_of, packed}
use Rattle.page_base.specs.declared.PageWords.{PageWords}
use Rattle.page_base.specs.Page.{cells, page}
use Rattle.page_base.specs.Promises.{cell_with}
use Rattle.page_base.proofs.ReadLaws.{with_cell, with_read, without-cell, without-read}
use Rattle.page_remove.specs.Remove.{taken_words, SettledPage, settle_page_of, removed_page, remove_page}
use Rattle.page_remove.proofs.StandLaws.{packed-occupied}

-- cell c holds a sequence of position j
pub page-taken : (w : PageWords) (ss vs : List ℕ) (j c : ℕ) → cells ss c % 64 ≡ j → page (taken_words w j c) ss vs ≡ take_cell_of (page w ss vs) c
page-taken w ss vs j c e = λ i. record {
  kind = w.kind;
  occupied = clear_bit w.occupied (sym e i);
  filled = clear_bit w.filled c;
  sequences = cells ss;
  values = cells vs;
}

-- a page, n values in it, and whether it was demoted
abbrev pub settled : Page → ℕ → Bool → SettledPage
settled p n demoted = record { page = p; left = record { values = n; demoted = demoted } }

module _ (d : ℕ) (p : Page) where
  pub settle-empty : p.occupied ≡ 0 → settled (words 0 0 0 p) 0 false ≡ settle_page_of d p
  settle-empty e =
      let none = ap (λ (n : ℕ). settled (words 0 0 0 p) n false) (sym (count_none 64)) in
      bool (eqb p.kind 2) (λ k. rw (k, eq-eqb p.occupied 0 e) none) (λ k. rw (k, eq-eqb p.occupied 0 e) none)

  pub settle-demoted : (n : ℕ) → n ≡ count p.occupied → p.kind ≡ 2 → (p.occupied ≡ 0 → ⊥) → n ≤ d → settled (packed p) n true ≡ settle_page_of d p
  settle-demoted n e k o l =
      rw (eq-eqb p.kind 2 k, ne_eqb p.occupied 0 o, le-leb (count p.occupied) d (omega arith))
      (ap (λ (x : ℕ). settled (packed p) x true) (e ∙ ap count (sym (packed-occupied p))))

  -- the sequence is in cell c
  pub remove-found : (s c v : ℕ) (r : SettledPage) → c ≡ cell_with p s → c < 64 → v ≡ p.values c → r ≡ settle_page_of d (take_cell_of p c)
      → removed_page r (found v) ≡ remove_page d p s
  unfolding remove_page
  remove-found s c v r e l z q =
      let t = with_cell p s c e l in
      rw t.2 (λ i. removed_page ((q ∙ ap (λ (x : ℕ). settle_page_of d (take_cell_of p x)) t.0) i) ((ap found z ∙ with_read p s c e l) i))

  pub remove_absent : (s c n : ℕ) → c ≡ cell_with p s → 64 ≤ c → n ≡ count p.occupied → removed_page (settled p n false) absent ≡ remove_page d p s
  unfolding remove_page
  remove_absent s c n e l z = rw (without-cell p s c e l) (λ i. removed_page (settled p (z i) false) (without-read p s c e l i))
