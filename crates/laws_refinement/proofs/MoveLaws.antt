-- Pages that are newly retired: their live pairs move to the retired table. Assumes nothing.
use mathlib.Core.Path.{◌≡◌, refl, sym, ap, ◌∙◌}
use mathlib.Core.Bool.{Bool, true, false, cond, ◌||◌, or-false, or_assoc}
use mathlib.Core.Option.{Option, none, some}
use mathlib.Core.Logic.{◌⊎◌, inl, inr, ⊎_elim}
use Prim.Native.Nat.{ℕ, ◌*◌, ◌/◌, ◌%◌}
use native.Mathlib.Omega.{arith}
use native.Mathlib.Decide.{dec_le}
use Rattle.model.specs.Table.{Pair, within}
use Rattle.model.specs.Window.{Page, Window, stands_at, is_retired, live_at, retired_at}
use Rattle.model.specs.Positions.{positions, wipe, over, moved}
use Rattle.model.proofs.SweepLaws.{within-yes, within-below, within-above}
use Rattle.page_base.specs.Page.{Placed}
use Rattle.laws_refinement.specs.Seen.{positions_of}
use Rattle.laws_refinement.proofs.MarkLaws.{empty_stands, SameShown, either-mark}

-- v is w with the pages retired at which P holds; pages without a value may have any mark
pub record Moves (P : ℕ → Bool) (w v : Window) : Type 0 where
  pub pages : v.pages ≡ w.pages
  pub cursor : v.header.release_cursor ≡ w.header.release_cursor
  pub base : v.header.base ≡ w.header.base
  pub marks : (g : ℕ) → (is_retired v g ≡ (is_retired w g || P g)) ⊎ ((w.pages g).occupied ≡ 0)

-- ---- none, then some, then more

pub shown-moves : (w v : Window) (P : ℕ → Bool) → ((g : ℕ) → P g ≡ false) → SameShown w v → Moves P w v
shown-moves w v P h s = record {
  pages = s.pages;
  cursor = s.cursor;
  base = s.base;
  marks = λ g. ⊎_elim (λ e. inl (e ∙ sym (or-false (is_retired w g)) ∙ ap (λ (t : Bool). is_retired w g || t) (sym (h g)))) (λ e. inr e) (s.marks g);
}

pub moves-then : (P Q R : ℕ → Bool) (w u v : Window) → ((g : ℕ) → R g ≡ (P g || Q g)) → Moves P w u → Moves Q u v → Moves R w v
moves-then P Q R w u v h a b = record {
  pages = b.pages ∙ a.pages;
  cursor = b.cursor ∙ a.cursor;
  base = b.base ∙ a.base;
  marks = λ g. ⊎_elim
      (λ e. ⊎_elim
      (λ d. inl (e ∙ ap (λ (t : Bool). t || Q g) d ∙ or_assoc (is_retired w g) (P g) (Q g) ∙ ap (λ (t : Bool). is_retired w g || t) (sym (h g))))
      (λ d. inr d)
      (a.marks g))
      (λ e. inr (ap (λ (f : ℕ → Page). (f g).occupied) (sym a.pages) ∙ e))
      (b.marks g);
}

-- another test, the same at pages that hold a value
pub moves-same : (P Q : ℕ → Bool) (w v : Window) → ((g : ℕ) → (P g ≡ Q g) ⊎ ((w.pages g).occupied ≡ 0)) → Moves P w v → Moves Q w v
moves-same P Q w v h a = record {
  pages = a.pages;
  cursor = a.cursor;
  base = a.base;
  marks = λ g. ⊎_elim (λ d. ⊎_elim (λ e. inl (e ∙ ap (λ (t : Bool). is_retired w g || t) d)) (λ e. inr e) (a.marks g)) (λ d. inr d) (h g);
}

-- ---- at the positions: r, the page was retired; p, it is now

live-after : (r p : Bool) (s : Option Pair) → cond (r || p) none s ≡ cond p none (cond r none s)
live-after true true s = refl
live-after true false s = refl
live-after false true s = refl
live-after false false s = refl

over_none : (s : Option Pair) → s ≡ over s none
over_none none = refl
over_none (some x) = refl

retired-after : (r p : Bool) (s : Option Pair) → cond (r || p) s none ≡ cond p (over (cond r none s) (cond r s none)) (cond r s none)
retired-after true true s = refl
retired-after true false s = refl
retired-after false true s = over_none s
retired-after false false s = refl

-- the positions of the pages from `from` up to `to`
pub within-pages : (from to q : ℕ) → within from to (q / 64) ≡ within (from * 64) (to * 64) q
within-pages from to q = elim (dec_le (from * 64) q) [
  | no a ↦ within-below from to (q / 64) (omega arith) ∙ sym (within-below (from * 64) (to * 64) q (omega arith))
  | yes a ↦ elim (dec_le (to * 64) q) [
    | no b ↦ within-yes from to (q / 64) (omega arith) (omega arith) ∙ sym (within-yes (from * 64) (to * 64) q a (omega arith))
    | yes b ↦ within-above from to (q / 64) (omega arith) ∙ sym (within-above (from * 64) (to * 64) q b)
  ]
]

module _ (n : ℕ) (w v : Window) (ok : (g : ℕ) → Placed n (w.pages g)) (P : ℕ → Bool) (m : Moves P w v) where
  abbrev stands : ℕ → Option Pair
  stands q = stands_at (w.pages (q / 64)) (q % 64)

  -- where nothing stands, the mark does not matter
  by-marks : (f : Bool → Option Pair) (q : ℕ) → (stands q ≡ none → f true ≡ f false) → f (is_retired v (q / 64)) ≡ f (is_retired w (q / 64) || P (q / 64))
  by-marks f q h =
      either-mark f (is_retired v (q / 64)) (is_retired w (q / 64) || P (q / 64))
      (⊎_elim (λ e. inl e) (λ e. inr (h (empty_stands n (w.pages (q / 64)) (ok (q / 64)) e (q % 64)))) (m.marks (q / 64)))

  moves_live : (q : ℕ) → live_at v q ≡ cond (P (q / 64)) none (live_at w q)
  moves_live q =
      ap (λ (f : ℕ → Page). cond (is_retired v (q / 64)) none (stands_at (f (q / 64)) (q % 64))) m.pages
      ∙ by-marks (λ (b : Bool). cond b none (stands q)) q (λ e. sym e)
      ∙ live-after (is_retired w (q / 64)) (P (q / 64)) (stands q)

  moves-retired : (q : ℕ) → retired_at v q ≡ cond (P (q / 64)) (over (live_at w q) (retired_at w q)) (retired_at w q)
  moves-retired q =
      ap (λ (f : ℕ → Page). cond (is_retired v (q / 64)) (stands_at (f (q / 64)) (q % 64)) none) m.pages
      ∙ by-marks (λ (b : Bool). cond b (stands q) none) q (λ e. e)
      ∙ retired-after (is_retired w (q / 64)) (P (q / 64)) (stands q)

  -- where P holds just at the pages of the positions from a up to e
  pub moves-seen : (a e : ℕ) → ((q : ℕ) → P (q / 64) ≡ within a e q)
      → positions_of v ≡ positions (wipe a e (live_at w)) (moved a e (live_at w) (retired_at w)) w.header.release_cursor w.header.base
  moves-seen a e h = λ i. positions (λ q. (moves_live q ∙ ap (λ (b : Bool). cond b none (live_at w q)) (h q)) i)
      (λ q. (moves-retired q ∙ ap (λ (b : Bool). cond b (over (live_at w q) (retired_at w q)) (retired_at w q)) (h q)) i)
      (m.cursor i) (m.base i)
