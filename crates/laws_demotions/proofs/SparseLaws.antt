-- Which pages a removal of one value makes sparse: that of its sequence, just if it is demoted. Assumes nothing.
use mathlib.Core.Path.{◌≡◌, refl, sym, ap, ◌∙◌}
use mathlib.Core.Bool.{true, false, ◌&&◌}
use Prim.Native.Nat.{ℕ, ◌%◌, ◌≤◌, ◌<◌}
use native.Mathlib.Omega.{arith}
use native.Mathlib.Decide.{ℕ_discrete}
use lib.Dec.{eqb}
use borrow.Author.Tests.{eq-eqb, ne_eqb}
use Rattle.words.proofs.CaseLaws.{bool, both}
use Rattle.window.proofs.MemoryLaws.{position-lt, capacity-pages}
use Rattle.model.specs.Table.{sum, finds}
use Rattle.model.specs.Demand3.{one}
use Rattle.model.specs.Window.{Page, Window, size_of, pages_of, cell_of}
use Rattle.model.specs.Pages.{words, holds_value, take_cell_of, packed, unless_emptied_of, demotes, after_removal}
use Rattle.model.specs.Steps.{note_nonempty, page_of, live_here, remove_step}
use Rattle.laws_soundness.proofs.PageLaws.{one-lt}
use Rattle.laws_soundness.proofs.SumLaws.{sum-none, sum-but}
use Rattle.laws_demotions.specs.Demotions.{became_sparse, sparser}

-- ---- one page

pub same_kind : (p q : Page) → q.kind ≡ p.kind → became_sparse p q ≡ false
same_kind p q same = elim (ℕ_discrete p.kind 2) [ yes e ↦ rw (same, e) | no e ↦ rw (ne_eqb p.kind 2 e) ]

pub emptied-sparse : (p q : Page) → q.kind ≡ 0 → became_sparse p q ≡ false
emptied-sparse p q z = bool (eqb p.kind 2) (λ k. rw (k, z)) (λ k. rw k)

-- of a page q that is as dense as p was, what a removal leaves
module _ (p q : Page) (same : q.kind ≡ p.kind) (d : ℕ) where
  emptied-or-same : became_sparse p (unless_emptied_of q) ≡ false
  emptied-or-same =
      bool (holds_value q)
      (λ h. rw h (same_kind p q same))
      (λ h. rw h (emptied-sparse p (words 0 0 0 q) refl))

  pub removal-sparse : became_sparse p (after_removal d q) ≡ demotes d q
  unfolding packed
  removal-sparse =
      bool (demotes d q)
      (λ e. rw e (rw (sym (ap (λ (k : ℕ). eqb k 2) same) ∙ (both (eqb q.kind 2) _ e).0)))
      (λ e. rw e emptied-or-same)

-- ---- all pages of a window

pub none-sparser : (w v : Window) → v.pages ≡ w.pages → sparser w v ≡ 0
none-sparser w v e =
    ap (λ (pages : ℕ → Page). sum (pages_of w) (λ (g : ℕ). one (became_sparse (w.pages g) (pages g)))) e
    ∙ sum-none (pages_of w) (λ (g : ℕ). one (became_sparse (w.pages g) (w.pages g))) (λ g l. ap one (same_kind (w.pages g) (w.pages g) refl))

-- one page alone may be another
pub one-sparser : (w v : Window) (p : ℕ) → p < pages_of w → ((g : ℕ) → (g ≡ p → ⊥) → v.pages g ≡ w.pages g) → sparser w v ≡ one (became_sparse (w.pages p) (v.pages p))
one-sparser w v p l others =
    let f : ℕ → ℕ = λ g. one (became_sparse (w.pages g) (v.pages g)) in
    let z : ℕ → ℕ = λ g. 0 in
    let none = sum-none (pages_of w) z (λ g m. refl) in
    let but = sum-but (pages_of w) f z p l (λ g m e. ap (λ (q : Page). one (became_sparse (w.pages g) q)) (others g e) ∙ ap one (same_kind (w.pages g) (w.pages g) refl)) in
    omega (arith, none, but)

-- ---- a remove

module _ (w : Window) (s : ℕ) where
  abbrev g : ℕ
  g = page_of w s

  -- the page without the value
  abbrev pub rest : Page
  rest = take_cell_of (w.pages g) (cell_of (w.pages g) (s % 64))

  abbrev pub d : ℕ
  d = w.header.demote_at

  below : g < pages_of w
  below = let size = size_of w in omega (arith, position-lt size s, capacity-pages size)

  removed-page : finds s (live_here w s) ≡ true → (remove_step w s).after.pages g ≡ after_removal d rest
  unfolding remove_step note_nonempty
  removed-page t = rw (t, eq-eqb g g refl)

  other_pages : finds s (live_here w s) ≡ true → (h : ℕ) → (h ≡ g → ⊥) → (remove_step w s).after.pages h ≡ w.pages h
  unfolding remove_step note_nonempty
  other_pages t h e = rw (t, ne_eqb h g e)

  pub found-sparser : finds s (live_here w s) ≡ true → sparser w (remove_step w s).after ≡ one (demotes d rest)
  found-sparser t =
      one-sparser w (remove_step w s).after g below (other_pages t)
      ∙ ap (λ (q : Page). one (became_sparse (w.pages g) q)) (removed-page t)
      ∙ ap one (removal-sparse (w.pages g) rest refl d)

  pub absent-same : finds s (live_here w s) ≡ false → (remove_step w s).after ≡ w
  unfolding remove_step
  absent-same t = rw t

  pub remove-once : sparser w (remove_step w s).after ≤ 1
  remove-once =
      bool (finds s (live_here w s))
      (λ t. omega (arith, found-sparser t, one-lt (demotes d rest)))
      (λ t. omega (arith, none-sparser w (remove_step w s).after (ap (λ (v : Window). v.pages) (absent-same t))))
