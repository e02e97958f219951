-- How many pairs the tables have, retired and live, by page and in all: as many as the words of the window say. Assumes nothing.
use mathlib.Core.Path.{◌≡◌, sym, ap, ◌∙◌}
use mathlib.Core.Bool.{◌&&◌}
use mathlib.Core.Option.{none}
use Prim.Native.Nat.{ℕ, zero, suc, ◌+◌, ◌*◌, ◌/◌, ◌%◌, ◌≤◌, ◌<◌}
use native.Mathlib.Omega.{arith}
use native.Mathlib.Decide.{ℕ_discrete}
use lib.Dec.{ltb}
use borrow.Author.Tests.{lt-ltb}
use Rattle.words.proofs.CaseLaws.{bool}
use Rattle.words.specs.First.{first_round}
use Rattle.words.proofs.FirstLaws.{round_same}
use Rattle.words.specs.Word.{bit_at, count_below}
use Rattle.words.proofs.BitLaws.{bit-lt}
use Rattle.words.proofs.CountLaws.{count-suc}
use Rattle.model.specs.Table.{Table, held, sum}
use Rattle.model.specs.Window.{Page, Window, pages_of, stands_at, is_retired, live_at, retired_at}
use Rattle.model.specs.Pages.{values_in_of, holds_value}
use Rattle.model.specs.Positions.{in_page, page_holds, next_page, retired_count}
use Rattle.model.specs.Steps.{next_retired_of}
use Rattle.model.specs.Sound.{live_in, retired_in}
use Rattle.page_base.specs.Page.{Placed}
use Rattle.page_base.proofs.StandLaws.{stands-none, stands-some}
use Rattle.laws_soundness.proofs.SumLaws.{sum-zero, sum-suc, sum_same, sum-none, sum-blocks}
use Rattle.laws_soundness.proofs.PageLaws.{holds-none, none-counted, some-counted}
use Rattle.laws_refinement.specs.Seen.{positions_of}
use Rattle.laws_refinement.proofs.SeenLaws.{live_here_lem, retired-here, none-live-here, none-retired-here}
use Rattle.laws_refinement.proofs.MarkLaws.{InOrder}

-- ---- a page

-- the bits of a word, counted
sum-bits : (n x : ℕ) → sum n (bit_at x) ≡ count_below n x
unfolding count_below
sum-bits zero x = sum-zero (bit_at x)
sum-bits (suc n) x = omega (arith, sum-suc n (bit_at x), count-suc n x, sum-bits n x)

-- a position of a page holds a pair just if its bit is set
held-bit : (n : ℕ) (p : Page) → Placed n p → (j : ℕ) → j < 64 → held (stands_at p j) ≡ bit_at p.occupied j
held-bit n p ok j l = elim (ℕ_discrete (bit_at p.occupied j) 1) [
  | yes b ↦ ap held (stands-some n p ok j l b) ∙ sym b
  | no b ↦
      let z : bit_at p.occupied j ≡ 0 = omega (arith, bit-lt p.occupied j) in
      ap held (stands-none n p ok j z) ∙ sym z
]

-- as many as the page counts
page-held : (n : ℕ) (p : Page) → Placed n p → sum 64 (λ (j : ℕ). held (stands_at p j)) ≡ values_in_of p
page-held n p ok = sum_same 64 (λ (j : ℕ). held (stands_at p j)) (bit_at p.occupied) (held-bit n p ok) ∙ sum-bits 64 p.occupied

-- the positions of page g, where t has what stands on page p or nothing
module _ (t : Table) (g : ℕ) where
  in-page-all : (p : Page) → ((j : ℕ) → j < 64 → t (64 * g + j) ≡ stands_at p j) → in_page t g ≡ sum 64 (λ (j : ℕ). held (stands_at p j))
  unfolding in_page
  in-page-all p h = sum_same 64 (λ (j : ℕ). held (t (64 * g + j))) (λ (j : ℕ). held (stands_at p j)) (λ j l. ap held (h j l))

  in-page-none : ((j : ℕ) → j < 64 → t (64 * g + j) ≡ none) → in_page t g ≡ 0
  unfolding in_page
  in-page-none h = sum-none 64 (λ (j : ℕ). held (t (64 * g + j))) (λ j l. ap held (h j l))

module _ (n : ℕ) (w : Window) (g : ℕ) (ok : Placed n (w.pages g)) where
  slot-here : (t : Table) → ((q : ℕ) → q / 64 ≡ g → t q ≡ stands_at (w.pages g) (q % 64)) → (j : ℕ) → j < 64 → t (64 * g + j) ≡ stands_at (w.pages g) j
  slot-here t h j l = let b : (64 * g + j) % 64 ≡ j = omega arith in h (64 * g + j) (omega arith) ∙ ap (stands_at (w.pages g)) b

  pub page-counts : in_page (retired_at w) g ≡ retired_in w g
  page-counts =
      bool (is_retired w g)
      (λ r. rw r (in-page-all (retired_at w) g (w.pages g) (slot-here (retired_at w) (λ q e. retired-here w g q e r)) ∙ page-held n (w.pages g) ok))
      (λ r. rw r (in-page-none (retired_at w) g (λ j l. none-retired-here w g (64 * g + j) (omega arith) r)))

  pub page-counts-live : in_page (live_at w) g ≡ live_in w g
  page-counts-live =
      bool (is_retired w g)
      (λ r. rw r (in-page-none (live_at w) g (λ j l. none-live-here w g (64 * g + j) (omega arith) r)))
      (λ r. rw r (in-page-all (live_at w) g (w.pages g) (slot-here (live_at w) (λ q e. live_here_lem w g q e r)) ∙ page-held n (w.pages g) ok))

  -- the pages to inspect
  pub page-holds : page_holds (retired_at w) g ≡ (is_retired w g && holds_value (w.pages g))
  page-holds =
      ap (ltb 0) page-counts
      ∙ bool (is_retired w g)
      (λ r. rw r (bool (holds_value (w.pages g))
      (λ h. rw h (lt-ltb 0 (values_in_of (w.pages g)) (omega (arith, some-counted (w.pages g) ok.occupied_fits h))))
      (λ h. rw h (ap (ltb 0) (none-counted (w.pages g) (holds-none (w.pages g) h))))))
      (λ r. rw r)

-- ---- all pages

module _ (n pages : ℕ) (w : Window) (o : InOrder n pages w) where
  -- page by page
  pages-count : (t : Table) (f : ℕ → ℕ) → ((g : ℕ) → in_page t g ≡ f g) → (cap : ℕ) → cap ≡ 64 * pages → sum cap (λ (q : ℕ). held (t q)) ≡ sum pages f
  unfolding in_page
  pages-count t f h cap e =
      ap (λ (c : ℕ). sum c (λ (q : ℕ). held (t q))) e ∙ sum-blocks pages (λ (q : ℕ). held (t q)) ∙ sum_same pages (in_page t) f (λ g l. h g)

  pub all-counts : (cap : ℕ) → cap ≡ 64 * pages → retired_count cap (positions_of w) ≡ w.header.retired_held
  all-counts cap e = pages-count (retired_at w) (retired_in w) (λ g. page-counts n w g (o.places g)) cap e ∙ sym o.held

  pub all-counts-live : (cap : ℕ) → cap ≡ 64 * pages → sum cap (λ (q : ℕ). held (live_at w q)) ≡ sum pages (live_in w)
  all-counts-live = pages-count (live_at w) (live_in w) (λ g. page-counts-live n w g (o.places g))

  pub next-page : pages ≡ pages_of w → w.header.release_cursor ≤ pages → next_page pages (retired_at w) w.header.release_cursor ≡ next_retired_of w
  unfolding next_retired_of
  next-page e l =
      round_same (page_holds (retired_at w)) (λ (g : ℕ). is_retired w g && holds_value (w.pages g)) pages w.header.release_cursor l (λ g k. page-holds n w g (o.places g))
      ∙ ap (λ (m : ℕ). first_round (λ (g : ℕ). is_retired w g && holds_value (w.pages g)) m w.header.release_cursor) e
