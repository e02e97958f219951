-- Insert keeps a window sound. Assumes nothing.
use mathlib.Core.Path.{◌≡◌, refl, ap, subst, ◌∙◌}
use mathlib.Core.Bool.{true, false, cond}
use mathlib.Core.Option.{none}
use Prim.Native.Nat.{ℕ, ◌+◌, ◌/◌, ◌%◌, ◌^◌, ◌≤◌, ◌<◌}
use native.Mathlib.Omega.{arith}
use native.Mathlib.Decide.{ℕ_discrete, dec_lt}
use lib.Dec.{eqb}
use borrow.Author.Tests.{lt-ltb}
use Rattle.words.proofs.CaseLaws.{bool}
use Rattle.window.specs.Memory.{capacity}
use Rattle.model.specs.Table.{held, put_answer_of}
use Rattle.model.specs.Window.{Page, Window, capacity_of, pages_of, cell_of, stands_at, is_retired}
use Rattle.model.specs.Pages.{values_in_of, Inserted, insert_page}
use Rattle.model.specs.Steps.{add_live_of, count_promotion_of, put_page, with_page, page_of, is_new, revive, insert_step}
use Rattle.model.specs.Sound.{SoundPage}
use Rattle.page_base.specs.Page.{OfPage}
use Rattle.page_base.proofs.PlaceLaws.{placed, cell-le}
use Rattle.page_base.proofs.StandLaws.{stands-out}
use Rattle.page_insert.proofs.InsertLaws.{Leaves, insert-leaves, insert-sound}
use Rattle.laws_soundness.specs.Change.{Proper}
use Rattle.laws_soundness.proofs.ChangeLaws.{change-proper}
use Rattle.laws_soundness.proofs.PutLaws.{put_same, put-more}
use Rattle.laws_soundness.proofs.ExchangeRemoveLaws.{page-lt}
use Rattle.laws_soundness.proofs.ReviveLaws.{revive-revives}

-- ---- one page

-- at an occupied position the words stay
over-words : (n : ℕ) (p : Page) (s v : ℕ) → cell_of p (s % 64) < 64
    → (is_new (insert_page n p s v).answer ≡ false) × ((insert_page n p s v).page.kind ≡ p.kind) × ((insert_page n p s v).page.occupied ≡ p.occupied)
unfolding insert_page
over-words n p s v l =
    let c = cell_of p (s % 64) in
    bool (eqb (p.sequences c) s)
    (λ e. rw (lt-ltb c 64 l, e) (refl, refl, refl))
    (λ e. rw (lt-ltb c 64 l, e) (refl, refl, refl))

-- the window u with sequence s and value v in page g, which is live
abbrev put_in : ℕ → Window → ℕ → ℕ → ℕ → Window
put_in n u g s v =
    let i = insert_page n (u.pages g) s v in
    cond (is_new i.answer) (add_live_of (count_promotion_of (put_page u g i.page) i.promotes) (g / 64) 1) (with_page u g i.page)

module _ (u : Window) (g s v : ℕ) (ok : Proper u) (below : g < pages_of u) (here : OfPage (capacity_of u) g s) (live : is_retired u g ≡ false) where
  abbrev p : Page
  p = u.pages g

  abbrev i : Inserted
  i = insert_page u.header.n p s v

  few : u.header.n < 64
  few = omega (arith, ok.sound.within.n_high)

  left : Leaves u.header.n p s v i
  left = insert-leaves u.header.n p s v (placed u.header.n (capacity_of u) g p (ok.sound.page g below)) few

  page-sound : SoundPage u.header.n (capacity_of u) g i.page
  page-sound = insert-sound u.header.n (capacity_of u) g s v p (ok.sound.page g below) here few

  -- at a free position there is one value more
  free_more : 64 ≤ cell_of p (s % 64) → (is_new i.answer ≡ true) × (values_in_of i.page ≡ values_in_of p + 1)
  free_more l =
      let z : stands_at p (s % 64) ≡ none = stands-out p (s % 64) (omega (arith, cell-le p (s % 64))) in
      (ap is_new (left.answer ∙ ap (put_answer_of s) z), omega (arith, left.counted, ap held z))

  free-dense : values_in_of i.page ≡ values_in_of p + 1 → i.page.kind ≡ 2 → (u.header.demote_at ≡ 0 → ⊥) → u.header.demote_at < values_in_of i.page
  free-dense more k n = elim (ℕ_discrete p.kind 2) [
    | yes e ↦ omega (arith, more, ok.sound.dense g below live e n)
    | no e ↦ omega (arith, left.dense k e, ok.sound.within.demote)
  ]

  put-proper : Proper (put_in u.header.n u g s v)
  put-proper = elim (dec_lt (cell_of p (s % 64)) 64) [
    | yes l ↦
        let o = over-words u.header.n p s v l in
        rw o.0 (change-proper u (with_page u g i.page) g i.page ok below (put_same u g i.page ok.sound below page-sound o.1 o.2 live))
    | no l ↦
        let m = free_more (omega arith) in
        rw m.0 (change-proper u _ g i.page ok below (put-more u g 1 i.page i.promotes ok.sound below live page-sound (free-dense m.1) m.1))
  ]

-- ---- insert

pub proper-insert : (w : Window) (s v : ℕ) → s < 2 ^ 31 → Proper w → Proper (insert_step w s v).after
unfolding insert_step
proper-insert w s v wire ok =
    let g = page_of w s in
    let r = revive-revives w g ok (page-lt w s) in
    let u = (revive w g).after in
    let here : OfPage (capacity_of u) g s = (ap (λ (x : ℕ). s % capacity x / 64) r.size, wire) in
    subst (λ (n : ℕ). Proper (put_in n u g s v)) r.cells (put-proper u g s v r.proper (rw r.size (page-lt w s)) here r.live)
