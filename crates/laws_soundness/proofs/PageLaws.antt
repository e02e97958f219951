-- What a page counts, live and retired, and what a sound window's words say of its pages. Assumes nothing.
use mathlib.Core.Path.{◌≡◌, refl, sym, ap, ◌∙◌}
use mathlib.Core.Bool.{Bool, true, false, cond, ◌||◌, true≢false}
use mathlib.Core.Logic.{◌⊎◌, inl, inr, ⊎_elim}
use Prim.Native.Nat.{ℕ, ◌+◌, ◌*◌, ◌/◌, ◌%◌, ◌^◌, ◌≤◌, ◌<◌}
use native.Mathlib.Omega.{arith}
use native.Mathlib.Decide.{ℕ_discrete, dec_lt}
use borrow.Author.Tests.{eq-eqb, ne_eqb}
use Rattle.words.proofs.CaseLaws.{bool}
use Rattle.words.specs.Word.{bit_at, is_set, count}
use Rattle.words.proofs.BitLaws.{bit-lt, bit-none, ext-bits}
use Rattle.words.proofs.CountLaws.{count_none, count-zero}
use Rattle.model.specs.Table.{sum}
use Rattle.model.specs.Demand3.{one}
use Rattle.model.specs.Window.{Page, Window, pages_of, is_retired}
use Rattle.model.specs.Pages.{values_in_of, holds_value}
use Rattle.model.specs.Sound.{live_in, retired_in, Sound}
use Rattle.laws_soundness.specs.Change.{marked, SameStatus}
use Rattle.laws_soundness.proofs.SumLaws.{sum-part}

-- ---- bits and tests

pub one-lt : (b : Bool) → one b < 2
one-lt true = omega arith
one-lt false = omega arith

pub one-true : (b : Bool) → one b ≡ 1 → b ≡ true
one-true true e = refl
one-true false e = absurd (omega arith)

pub bit-not-one : (w k : ℕ) → (bit_at w k ≡ 1 → ⊥) → bit_at w k ≡ 0
bit-not-one w k h = omega (arith, bit-lt w k, h)

-- what holds of either of two
pub cond-holds : {A : Type 0} (B : A → Type 0) (u v : A) (b : Bool) → (b ≡ true → B u) → (b ≡ false → B v) → B (cond b u v)
cond-holds B u v true l r = l refl
cond-holds B u v false l r = r refl

pub or-neither : (a b : Bool) → (a || b) ≡ false → (a ≡ false) × (b ≡ false)
or-neither true b e = absurd (true≢false e)
or-neither false b e = (refl, e)

-- ---- one page

module _ (p : Page) where
  pub holds_not : p.occupied ≡ 0 → holds_value p ≡ false
  holds_not e = rw (eq-eqb p.occupied 0 e)

  pub holds-some : (p.occupied ≡ 0 → ⊥) → holds_value p ≡ true
  holds-some e = rw (ne_eqb p.occupied 0 e)

  pub holds-occupied : holds_value p ≡ true → p.occupied ≡ 0 → ⊥
  holds-occupied e z = true≢false (sym e ∙ holds_not z)

  pub holds-none : holds_value p ≡ false → p.occupied ≡ 0
  holds-none e = elim (ℕ_discrete p.occupied 0) [ yes z ↦ z | no z ↦ absurd (true≢false (sym (holds-some z) ∙ e)) ]

  pub none-counted : p.occupied ≡ 0 → values_in_of p ≡ 0
  none-counted e = ap count e ∙ count_none 64

  pub some-counted : p.occupied < 2 ^ 64 → holds_value p ≡ true → 1 ≤ values_in_of p
  some-counted l e =
      elim (ℕ_discrete (values_in_of p) 0) [ yes z ↦ absurd (holds-occupied e (count-zero 64 p.occupied l z)) | no z ↦ omega arith ]

-- ---- the live and the retired values of a page

module _ (w : Window) (g : ℕ) where
  pub live-counts : is_retired w g ≡ false → (live_in w g ≡ values_in_of (w.pages g)) × (retired_in w g ≡ 0)
  live-counts e = (rw e, rw e)

  pub retired-counts : is_retired w g ≡ true → (live_in w g ≡ 0) × (retired_in w g ≡ values_in_of (w.pages g))
  retired-counts e = (rw e, rw e)

  pub page-total : live_in w g + retired_in w g ≡ values_in_of (w.pages g)
  page-total =
      bool (is_retired w g)
      (λ e. omega (arith, (retired-counts e).0, (retired-counts e).1))
      (λ e. omega (arith, (live-counts e).0, (live-counts e).1))

  pub empty-counts : (w.pages g).occupied ≡ 0 → (live_in w g ≡ 0) × (retired_in w g ≡ 0)
  empty-counts z = let n = none-counted (w.pages g) z in bool (is_retired w g) (λ e. (rw e, rw e n)) (λ e. (rw e n, rw e))

  pub marked-retired : marked w g ≡ 1 → is_retired w g ≡ true
  marked-retired e = bool (is_set w.header.retired_blocks (g / 64)) (λ i. rw i) (λ i. rw (i, e))

-- a page that is the same in two windows, and as retired or empty
module _ (w v : Window) (h : ℕ) where
  pub same-counts : v.pages h ≡ w.pages h → SameStatus w v h → (live_in v h ≡ live_in w h) × (retired_in v h ≡ retired_in w h)
  same-counts e s =
      ⊎_elim
      (λ z.
      let a = empty-counts w h z in
      let b = empty-counts v h (ap (λ (p : Page). p.occupied) e ∙ z) in
      (b.0 ∙ sym a.0, b.1 ∙ sym a.1))
      (λ r. (λ i. cond (r i) 0 (values_in_of (e i)), λ i. cond (r i) (values_in_of (e i)) 0))
      s

  -- a dense page that was live, or is empty
  pub kept-dense : Sound w → h < pages_of w → v.pages h ≡ w.pages h → ((w.pages h).occupied ≡ 0) ⊎ (is_retired w h ≡ false)
      → (v.pages h).kind ≡ 2 → (w.header.demote_at ≡ 0 → ⊥) → w.header.demote_at < values_in_of (v.pages h)
  kept-dense ok l e s =
      rw e (λ k n. ⊎_elim
      (λ z. absurd ((ok.page h l).some_occupied (λ y. omega arith) z))
      (λ r. ok.dense h l r k n)
      s)

  pub same-dense : Sound w → h < pages_of w → v.pages h ≡ w.pages h → SameStatus w v h
      → is_retired v h ≡ false → (v.pages h).kind ≡ 2 → (w.header.demote_at ≡ 0 → ⊥) → w.header.demote_at < values_in_of (v.pages h)
  same-dense ok l e s live = kept-dense ok l e (⊎_elim (λ z. inl z) (λ r. inr (sym r ∙ live)) s)

-- ---- while nothing is retired there is no mark

-- a window of n pages, marks only on pages that hold a value, and retired_held their sum
module _ (v : Window) (n : ℕ) (fits : (h : ℕ) → h < n → (v.pages h).occupied < 2 ^ 64) (hold : (h : ℕ) → h < n → marked v h ≡ 1 → holds_value (v.pages h) ≡ true)
    (past : (h : ℕ) → n ≤ h → marked v h ≡ 0) (held : v.header.retired_held ≡ sum n (retired_in v)) (marks_fit : (b : ℕ) → (v.blocks b).retired < 2 ^ 64) where
  -- a marked page has a retired value
  none-marked : v.header.retired_held ≡ 0 → (h : ℕ) → marked v h ≡ 1 → ⊥
  none-marked z h e = elim (dec_lt h n) [
    | yes l ↦ omega (arith, held, sum-part n (retired_in v) h l, some-counted (v.pages h) (fits h l) (hold h l e), (retired-counts v h (marked-retired v h e)).1)
    | no l ↦ omega (arith, past h (omega arith))
  ]

  pub no-marks : v.header.retired_held ≡ 0 → (b : ℕ) → (v.blocks b).retired ≡ 0
  no-marks z b =
      ext-bits 64 (v.blocks b).retired 0 (marks_fit b) (omega arith)
      (λ i l.
      let y : (64 * b + i) / 64 ≡ b = omega arith in
      let r : (64 * b + i) % 64 ≡ i = omega arith in
      bit-not-one (v.blocks b).retired i (λ e. none-marked z (64 * b + i) (rw (y, r) e)) ∙ sym (bit-none i))

-- ---- a sound window

module _ (w : Window) (ok : Sound w) where
  -- the counts have the page's values in them
  pub live-part : (g : ℕ) → g < pages_of w → live_in w g ≤ (w.blocks (g / 64)).live
  live-part g l =
      let z : 64 * (g / 64) + g % 64 ≡ g = omega arith in
      omega (arith, ok.live (g / 64) (omega arith), sum-part 64 (λ (i : ℕ). live_in w (64 * (g / 64) + i)) (g % 64) (omega arith), ap (live_in w) z)

  pub len-part : (g : ℕ) → g < pages_of w → live_in w g ≤ w.header.len
  len-part g l = omega (arith, ok.len, sum-part (pages_of w) (live_in w) g l)

  pub held-part : (g : ℕ) → g < pages_of w → retired_in w g ≤ w.header.retired_held
  held-part g l = omega (arith, ok.held, sum-part (pages_of w) (retired_in w) g l)

  -- marks are on noted pages
  marks-at : (g : ℕ) → marked w g ≡ 1 → bit_at (w.blocks (g / 64)).nonempty (g % 64) ≡ 1
  marks-at g e = elim (dec_lt g (pages_of w)) [
    | yes l ↦ ok.nonempty g l ∙ ap one (ok.marks g l e)
    | no l ↦ absurd (omega (arith, ok.retired_bits g (omega arith)))
  ]

  pub marks-in : (b i : ℕ) → i < 64 → bit_at (w.blocks b).retired i ≡ 1 → bit_at (w.blocks b).nonempty i ≡ 1
  marks-in b i l e =
      let y : (64 * b + i) / 64 ≡ b = omega arith in
      let r : (64 * b + i) % 64 ≡ i = omega arith in
      rw (y, r) at (marks-at (64 * b + i) (rw (y, r) e))

  -- an empty page of a block without a mark is live
  pub empty-live : (g : ℕ) → g < pages_of w → (w.pages g).occupied ≡ 0 → is_set w.header.retired_blocks (g / 64) ≡ false → is_retired w g ≡ false
  empty-live g l z e = rw e (ne_eqb (marked w g) 1 (λ m. holds-occupied (w.pages g) (ok.marks g l m) z))
