-- What the steps of bookkeeping leave at the positions. Assumes nothing.
use mathlib.Core.Path.{◌≡◌, refl, sym, ap, ◌∙◌}
use mathlib.Core.Bool.{Bool, true, false, cond, ◌||◌}
use mathlib.Core.Option.{Option, none}
use Prim.Native.Nat.{ℕ, ◌/◌, ◌%◌, ◌<◌}
use native.Mathlib.Omega.{arith}
use native.Mathlib.Decide.{ℕ_discrete}
use lib.Dec.{eqb}
use borrow.Author.Tests.{eq-eqb, ne_eqb}
use Rattle.words.specs.Word.{is_set}
use Rattle.window.specs.declared.AdaptiveReceiverPacketWindow.{AdaptiveReceiverPacketWindow}
use Rattle.window.specs.declared.Cause.{Cause}
use Rattle.model.specs.Table.{Pair, at}
use Rattle.model.specs.Window.{Page, Block, Window, upd, stands_at, is_retired, live_at, retired_at}
use Rattle.model.specs.Positions.{positions}
use Rattle.model.specs.Steps.{with_header, with_page, note_nonempty, add_live_of, sub_live_of, count_promotion_of, count_demotion_of}
use Rattle.laws_soundness.proofs.PutLaws.{fewer}
use Rattle.laws_refinement.specs.Seen.{positions_of}

-- ---- steps that touch no page, no mark, and neither cursor nor base

pub record SameView (w v : Window) : Type 0 where
  pub pages : v.pages ≡ w.pages
  pub block_marks : v.header.retired_blocks ≡ w.header.retired_blocks
  pub page-marks : (b : ℕ) → (v.blocks b).retired ≡ (w.blocks b).retired
  pub cursor : v.header.release_cursor ≡ w.header.release_cursor
  pub base : v.header.base ≡ w.header.base

module _ (w v : Window) (s : SameView w v) where
  pub view-retired : (g : ℕ) → is_retired v g ≡ is_retired w g
  view-retired g = λ i. is_set (s.block_marks i) (g / 64) || is_set (s.page-marks (g / 64) i) (g % 64)

  -- nothing changes at the positions
  pub view-seen : positions_of v ≡ positions_of w
  view-seen = λ i. record {
    live = λ q. cond (view-retired (q / 64) i) none (stands_at (s.pages i (q / 64)) (q % 64));
    retired = λ q. cond (view-retired (q / 64) i) (stands_at (s.pages i (q / 64)) (q % 64)) none;
    cursor = s.cursor i;
    base = s.base i;
  }

  pub view_then : (u : Window) → SameView v u → SameView w u
  view_then u t = record {
    pages = t.pages ∙ s.pages;
    block_marks = t.block_marks ∙ s.block_marks;
    page-marks = λ b. t.page-marks b ∙ s.page-marks b;
    cursor = t.cursor ∙ s.cursor;
    base = t.base ∙ s.base;
  }

-- a block with its retired word as it was
same_word : (f : ℕ → Block) (b : ℕ) (x : Block) → x.retired ≡ (f b).retired → (c : ℕ) → (upd f b x c).retired ≡ (f c).retired
same_word f b x h c = elim (ℕ_discrete c b) [
  | yes e ↦ rw (eq-eqb c b e) (h ∙ ap (λ (r : ℕ). (f r).retired) (sym e))
  | no e ↦ rw (ne_eqb c b e)
]

module _ (w : Window) where
  pub note-view : (g : ℕ) → SameView w (note_nonempty w g)
  unfolding note_nonempty
  note-view g = record { pages = refl; block_marks = refl; page-marks = same_word w.blocks (g / 64) _ refl; cursor = refl; base = refl }

  pub note-held : (g : ℕ) → (note_nonempty w g).header.retired_held ≡ w.header.retired_held
  unfolding note_nonempty
  note-held g = refl

  pub note-size : (g : ℕ) → (note_nonempty w g).header.window_size ≡ w.header.window_size
  unfolding note_nonempty
  note-size g = refl

  pub add-view : (b k : ℕ) → SameView w (add_live_of w b k)
  add-view b k = record { pages = refl; block_marks = refl; page-marks = same_word w.blocks b _ refl; cursor = refl; base = refl }

  pub sub-view : (b k : ℕ) → SameView w (sub_live_of w b k)
  sub-view b k = record { pages = refl; block_marks = refl; page-marks = same_word w.blocks b _ refl; cursor = refl; base = refl }

  -- another header with the same block marks, cursor and base
  pub header-view : (h : AdaptiveReceiverPacketWindow) → h.retired_blocks ≡ w.header.retired_blocks → h.release_cursor ≡ w.header.release_cursor → h.base ≡ w.header.base
      → SameView w (with_header w h)
  header-view h marks cursor base = record { pages = refl; block_marks = marks; page-marks = λ c. refl; cursor = cursor; base = base }

  pub promotion-view : (b : Bool) → SameView w (count_promotion_of w b)
  promotion-view b = header-view _ refl refl refl

  pub demotion-view : (c : Cause) (b : Bool) → SameView w (count_demotion_of c w b)
  demotion-view c b = header-view _ refl refl refl

-- a page with fewer values put and counted: only the page matters
pub fewer-seen : (w : Window) (cause : Cause) (g k : ℕ) (p : Page) (demoted : Bool) → positions_of (fewer w cause g k p demoted) ≡ positions_of (with_page w g p)
fewer-seen w cause g k p demoted =
    let a = with_page w g p in
    let b = sub_live_of a (g / 64) k in
    let c = note_nonempty b g in
    let e = count_demotion_of cause c demoted in
    view-seen a e (view_then a c (view_then a b (sub-view a (g / 64) k) c (note-view b g)) e (demotion-view c cause demoted))

-- ---- one page replaced: only its 64 positions change

module _ (w : Window) (g : ℕ) (p : Page) where
  pub page-live : (q : ℕ) → live_at (with_page w g p) q ≡ cond (eqb (q / 64) g) (cond (is_retired w g) none (stands_at p (q % 64))) (live_at w q)
  page-live q = elim (ℕ_discrete (q / 64) g) [ yes e ↦ rw (eq-eqb (q / 64) g e, e) | no e ↦ rw (ne_eqb (q / 64) g e) ]

  pub page-retired : (q : ℕ) → retired_at (with_page w g p) q ≡ cond (eqb (q / 64) g) (cond (is_retired w g) (stands_at p (q % 64)) none) (retired_at w q)
  page-retired q = elim (ℕ_discrete (q / 64) g) [ yes e ↦ rw (eq-eqb (q / 64) g e, e) | no e ↦ rw (ne_eqb (q / 64) g e) ]

-- what stands at the positions of a page that is live, and of one that is retired
module _ (w : Window) (g q : ℕ) (in-page : q / 64 ≡ g) where
  pub live_here_lem : is_retired w g ≡ false → live_at w q ≡ stands_at (w.pages g) (q % 64)
  live_here_lem r = rw (in-page, r)

  pub retired-here : is_retired w g ≡ true → retired_at w q ≡ stands_at (w.pages g) (q % 64)
  retired-here r = rw (in-page, r)

  pub none-live-here : is_retired w g ≡ true → live_at w q ≡ none
  none-live-here r = rw (in-page, r)

  pub none-retired-here : is_retired w g ≡ false → retired_at w q ≡ none
  none-retired-here r = rw (in-page, r)

-- position x, on a live page, replaced
module _ (w : Window) (x : ℕ) (p : Page) (f : Option Pair → Option Pair) (live : is_retired w (x / 64) ≡ false)
    (stands : (j : ℕ) → j < 64 → stands_at p j ≡ cond (eqb j (x % 64)) (f (stands_at (w.pages (x / 64)) j)) (stands_at (w.pages (x / 64)) j)) where
  point-live : (q : ℕ) → live_at (with_page w (x / 64) p) q ≡ at (live_at w) x (f (live_at w x)) q
  point-live q =
      page-live w (x / 64) p q
      ∙ elim (ℕ_discrete (q / 64) (x / 64)) [
        | yes e ↦
            elim (ℕ_discrete q x) [
              | yes z ↦ rw (eq-eqb (q / 64) (x / 64) e, live, eq-eqb q x z)
                  (stands (q % 64) (omega arith) ∙ rw (z, eq-eqb (x % 64) (x % 64) refl))
              | no z ↦ rw (eq-eqb (q / 64) (x / 64) e, live, ne_eqb q x z)
                  (stands (q % 64) (omega arith) ∙ rw (ne_eqb (q % 64) (x % 64) (λ u. z (omega arith))) (sym (live_here_lem w (x / 64) q e live)))
            ]
        | no e ↦ rw (ne_eqb (q / 64) (x / 64) e, ne_eqb q x (λ z. e (ap (λ (r : ℕ). r / 64) z)))
      ]

  point-retired : (q : ℕ) → retired_at (with_page w (x / 64) p) q ≡ retired_at w q
  point-retired q =
      page-retired w (x / 64) p q
      ∙ elim (ℕ_discrete (q / 64) (x / 64)) [
        | yes e ↦ rw (eq-eqb (q / 64) (x / 64) e, live) (sym (none-retired-here w (x / 64) q e live))
        | no e ↦ rw (ne_eqb (q / 64) (x / 64) e)
      ]

  pub point-seen : positions_of (with_page w (x / 64) p) ≡ positions (at (live_at w) x (f (live_at w x))) (retired_at w) w.header.release_cursor w.header.base
  point-seen = λ i. record { live = λ q. point-live q i; retired = λ q. point-retired q i; cursor = w.header.release_cursor; base = w.header.base }
