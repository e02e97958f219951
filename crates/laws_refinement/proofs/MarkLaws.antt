-- Marks that come and go on pages without a value: nothing changes at the positions. Assumes nothing.
use mathlib.Core.Path.{◌≡◌, refl, sym, ap, ◌∙◌}
use mathlib.Core.Bool.{Bool, true, false, cond, ◌||◌, true≢false}
use mathlib.Core.Option.{none}
use mathlib.Core.Logic.{◌⊎◌, inl, inr, ⊎_elim}
use Prim.Native.Nat.{ℕ, ◌/◌, ◌%◌, ◌≤◌}
use native.Mathlib.Omega.{arith}
use native.Mathlib.Decide.{ℕ_discrete, dec_lt}
use lib.Dec.{eqb}
use borrow.Author.Tests.{eq-eqb, ne_eqb, eqb-true}
use Rattle.words.proofs.CaseLaws.{bool}
use Rattle.words.specs.Word.{bit_at, is_set, clear_bit, count}
use Rattle.words.proofs.BitLaws.{bit-none}
use Rattle.words.proofs.ChangeLaws.{with-same, with-other}
use Rattle.words.proofs.CountLaws.{count_none, count-zero}
use Rattle.model.specs.Table.{sum}
use Rattle.model.specs.Window.{Page, Window, no_page, pages_of, stands_at, is_retired, live_at, retired_at}
use Rattle.model.specs.Steps.{set_marks, drop_block_marks, split_block}
use Rattle.model.specs.Sound.{Sound, retired_in}
use Rattle.page_base.specs.Page.{Placed}
use Rattle.page_base.proofs.PlaceLaws.{placed}
use Rattle.page_base.proofs.StandLaws.{stands-none}
use Rattle.page_remove.proofs.StandLaws.{emptied-placed}
use Rattle.laws_soundness.specs.Change.{NothingPast, Proper, noted}
use Rattle.laws_soundness.proofs.SumLaws.{sum_same, sum-part}
use Rattle.laws_soundness.proofs.SplitLaws.{unnoted-empty, split-status}
use Rattle.laws_refinement.specs.Seen.{positions_of}
use Rattle.laws_refinement.proofs.SeenLaws.{SameView, view-retired}

-- ---- an empty page

pub empty_stands : (n : ℕ) (p : Page) → Placed n p → p.occupied ≡ 0 → (j : ℕ) → stands_at p j ≡ none
empty_stands n p ok e j = stands-none n p ok j (ap (λ (x : ℕ). bit_at x j) e ∙ bit-none j)

-- nothing stands at its positions, live or retired
module _ (n : ℕ) (w : Window) (q : ℕ) (ok : Placed n (w.pages (q / 64))) (e : (w.pages (q / 64)).occupied ≡ 0) where
  pub empty-live : live_at w q ≡ none
  empty-live = bool (is_retired w (q / 64)) (λ r. rw r) (λ r. rw r (empty_stands n (w.pages (q / 64)) ok e (q % 64)))

  pub empty-retired : retired_at w q ≡ none
  empty-retired = bool (is_retired w (q / 64)) (λ r. rw r (empty_stands n (w.pages (q / 64)) ok e (q % 64))) (λ r. rw r)

-- ---- what the laws ask of a window: on every page the values are in their places, past the last page there is none, and
-- retired_held counts the retired

pub record InOrder (n pages : ℕ) (w : Window) : Type 0 where
  pub places : (g : ℕ) → Placed n (w.pages g)
  pub past : (g : ℕ) → pages ≤ g → (w.pages g).occupied ≡ 0
  pub held : w.header.retired_held ≡ sum pages (retired_in w)

pub in_order : (w : Window) → Sound w → NothingPast w → InOrder w.header.n (pages_of w) w
in_order w ok past = record {
  places = λ g. elim (dec_lt g (pages_of w)) [
    | yes l ↦ placed _ _ g _ (ok.page g l)
    | no l ↦ rw (past g (omega arith)) (emptied-placed w.header.n no_page)
  ];
  past = λ g l. ap (λ (p : Page). p.occupied) (past g l);
  held = ok.held;
}

pub proper-order : (w : Window) → Proper w → InOrder w.header.n (pages_of w) w
proper-order w ok = in_order w ok.sound ok.past

-- ---- windows with the same pages, and the same marks on pages that hold a value

pub record SameShown (w v : Window) : Type 0 where
  pub pages : v.pages ≡ w.pages
  pub cursor : v.header.release_cursor ≡ w.header.release_cursor
  pub base : v.header.base ≡ w.header.base
  pub marks : (g : ℕ) → (is_retired v g ≡ is_retired w g) ⊎ ((w.pages g).occupied ≡ 0)

-- what does not depend on the mark
pub either-mark : {A : Type 0} (f : Bool → A) (a b : Bool) → (a ≡ b) ⊎ (f true ≡ f false) → f a ≡ f b
either-mark f a b (inl e) = ap f e
either-mark f true true (inr e) = refl
either-mark f true false (inr e) = e
either-mark f false true (inr e) = sym e
either-mark f false false (inr e) = refl

module _ (w v : Window) (s : SameShown w v) where
  by-mark : {A : Type 0} (f : Bool → A) (g : ℕ) → ((w.pages g).occupied ≡ 0 → f true ≡ f false) → f (is_retired v g) ≡ f (is_retired w g)
  by-mark f g h = either-mark f (is_retired v g) (is_retired w g) (elim (s.marks g) [ inl e ↦ inl e | inr e ↦ inr (h e) ])

  pub shown-seen : (n : ℕ) → ((g : ℕ) → Placed n (w.pages g)) → positions_of v ≡ positions_of w
  shown-seen n ok = λ i. record { live = λ q. live q i; retired = λ q. retired q i; cursor = s.cursor i; base = s.base i }
    where
      nothing : (q : ℕ) → (w.pages (q / 64)).occupied ≡ 0 → stands_at (w.pages (q / 64)) (q % 64) ≡ none
      nothing q e = empty_stands n (w.pages (q / 64)) (ok (q / 64)) e (q % 64)

      live : (q : ℕ) → live_at v q ≡ live_at w q
      live q =
          let p = w.pages (q / 64) in
          ap (λ (f : ℕ → Page). cond (is_retired v (q / 64)) none (stands_at (f (q / 64)) (q % 64))) s.pages
          ∙ by-mark (λ (b : Bool). cond b none (stands_at p (q % 64))) (q / 64) (λ e. sym (nothing q e))

      retired : (q : ℕ) → retired_at v q ≡ retired_at w q
      retired q =
          let p = w.pages (q / 64) in
          ap (λ (f : ℕ → Page). cond (is_retired v (q / 64)) (stands_at (f (q / 64)) (q % 64)) none) s.pages
          ∙ by-mark (λ (b : Bool). cond b (stands_at p (q % 64)) none) (q / 64) (nothing q)

  shown-count : (g : ℕ) → retired_in v g ≡ retired_in w g
  shown-count g =
      ap (λ (f : ℕ → Page). cond (is_retired v g) (count (f g).occupied) 0) s.pages
      ∙ by-mark (λ (b : Bool). cond b (count (w.pages g).occupied) 0) g (λ e. ap count e ∙ count_none 64)

  pub shown-order : (n pages : ℕ) → v.header.retired_held ≡ w.header.retired_held → InOrder n pages w → InOrder n pages v
  shown-order n pages e o = record {
    places = λ g. rw s.pages (o.places g);
    past = λ g l. rw s.pages (o.past g l);
    held = e ∙ o.held ∙ sum_same pages (retired_in w) (retired_in v) (λ g l. sym (shown-count g));
  }

pub view-shown : (w v : Window) → SameView w v → SameShown w v
view-shown w v s = record { pages = s.pages; cursor = s.cursor; base = s.base; marks = λ g. inl (view-retired w v s g) }

pub shown-self : (w : Window) → SameShown w w
shown-self w = record { pages = refl; cursor = refl; base = refl; marks = λ g. inl refl }

-- ---- an emptied page loses its mark

-- without the mark on page g
abbrev pub unmarked : Window → ℕ → Window
unmarked w g = set_marks w (g / 64) (clear_bit (w.blocks (g / 64)).retired (g % 64))

module _ (w : Window) (g : ℕ) where
  -- every other page
  unmarked-other : (r : ℕ) → (r ≡ g → ⊥) → is_retired (unmarked w g) r ≡ is_retired w r
  unmarked-other r d =
      elim (ℕ_discrete (r / 64) (g / 64)) [
        | yes e ↦ rw (eq-eqb (r / 64) (g / 64) e, e, with-other (w.blocks (g / 64)).retired (g % 64) 0 (r % 64) (omega arith) (λ z. d (omega arith)))
        | no e ↦ rw (ne_eqb (r / 64) (g / 64) e)
      ]

  -- the page itself is retired only by its block
  pub unmarked-same : is_retired (unmarked w g) g ≡ (is_set w.header.retired_blocks (g / 64) || false)
  unmarked-same = rw (eq-eqb (g / 64) (g / 64) refl, with-same (w.blocks (g / 64)).retired (g % 64) 0 (omega arith))

  pub unmarked-shown : (w.pages g).occupied ≡ 0 → SameShown w (unmarked w g)
  unmarked-shown z = record {
    pages = refl;
    cursor = refl;
    base = refl;
    marks = λ r. elim (ℕ_discrete r g) [ yes e ↦ inr (rw e z) | no e ↦ inl (unmarked-other r e) ];
  }

-- ---- "When none is held, all block marks drop"

second-false : (a b : Bool) → a || b ≡ false → b ≡ false
second-false true b e = absurd (true≢false e)
second-false false b e = e

-- a live page has no mark of its own
no-mark : (w : Window) (g : ℕ) → is_retired w g ≡ false → is_set (w.blocks (g / 64)).retired (g % 64) ≡ false
no-mark w g r = second-false (is_set w.header.retired_blocks (g / 64)) (is_set (w.blocks (g / 64)).retired (g % 64)) r

module _ (n pages : ℕ) (w : Window) (o : InOrder n pages w) where
  -- while none is held, no retired page holds a value
  none-held : w.header.retired_held ≡ 0 → (g : ℕ) → is_retired w g ≡ true → (w.pages g).occupied ≡ 0
  none-held z g r = elim (dec_lt g pages) [
    | yes l ↦
        let c : retired_in w g ≡ count (w.pages g).occupied = rw r in
        count-zero 64 (w.pages g).occupied (o.places g).occupied_fits (omega (arith, o.held, sum-part pages (retired_in w) g l))
    | no l ↦ o.past g (omega arith)
  ]

  pub drop-shown : SameShown w (drop_block_marks w)
  drop-shown =
      bool (eqb w.header.retired_held 0)
      (λ t. rw t (record {
        pages = refl;
        cursor = refl;
        base = refl;
        marks = λ g. bool (is_retired w g)
            (λ r. inr (none-held (eqb-true w.header.retired_held 0 t) g r))
            (λ r. inl (rw (bit-none (g / 64)) (no-mark w g r ∙ sym r)));
      }))
      (λ t. rw t (shown-self w))

  pub drop-order : InOrder n pages (drop_block_marks w)
  drop-order = shown-order w (drop_block_marks w) drop-shown n pages same o
    where
      same : (drop_block_marks w).header.retired_held ≡ w.header.retired_held
      same = bool (eqb w.header.retired_held 0) (λ t. rw t) (λ t. rw t)

pub drop-size : (w : Window) → (drop_block_marks w).header.window_size ≡ w.header.window_size
drop-size w = bool (eqb w.header.retired_held 0) (λ t. rw t) (λ t. rw t)

-- a live page stays live
pub drop-live : (w : Window) (g : ℕ) → is_retired w g ≡ false → is_retired (drop_block_marks w) g ≡ false
drop-live w g r =
    bool (eqb w.header.retired_held 0)
    (λ t. rw (t, bit-none (g / 64)) (no-mark w g r))
    (λ t. rw t r)

-- ---- "its block mark turns into marks on all its nonempty pages"

module _ (w : Window) (b : ℕ) where
  split-held : (split_block w b).header.retired_held ≡ w.header.retired_held
  unfolding split_block
  split-held = bool (is_set w.header.retired_blocks b) (λ t. rw t) (λ t. rw t)

-- where every page that is not noted is empty
pub split-shown : (w : Window) (b : ℕ) → ((g : ℕ) → (noted w g ≡ 1 → ⊥) → (w.pages g).occupied ≡ 0) → SameShown w (split_block w b)
unfolding split_block
split-shown w b empty =
    bool (is_set w.header.retired_blocks b)
    (λ t. rw t (record { pages = refl; cursor = refl; base = refl; marks = λ g. ⊎_elim (λ e. inr e) (λ e. inl e) (split-status w b t empty g) }))
    (λ t. rw t (shown-self w))

module _ (w : Window) (ok : Sound w) (past : NothingPast w) where
  shown : (b : ℕ) → SameShown w (split_block w b)
  shown b = split-shown w b (unnoted-empty w (record { sound = ok; past = past }))

  pub split-seen : (b : ℕ) → positions_of (split_block w b) ≡ positions_of w
  split-seen b = shown-seen w (split_block w b) (shown b) w.header.n (in_order w ok past).places

  pub split-order : (b : ℕ) → InOrder w.header.n (pages_of w) (split_block w b)
  split-order b = shown-order w (split_block w b) (shown b) w.header.n (pages_of w) (split-held w b) (in_order w ok past)

  pub drop-seen : positions_of (drop_block_marks w) ≡ positions_of w
  drop-seen = let o = in_order w ok past in shown-seen w (drop_block_marks w) (drop-shown w.header.n (pages_of w) w o) w.header.n o.places
