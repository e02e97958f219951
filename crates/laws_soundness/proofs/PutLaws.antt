-- A page replaced while all marks stay: a live page, a retired page that still holds a value, a page with the same words. Assumes nothing.
use mathlib.Core.Path.{◌≡◌, refl, sym, ap, ◌∙◌}
use mathlib.Core.Bool.{Bool, true, false, not, true≢false, ◌||◌}
use mathlib.Core.Logic.{inr}
use Prim.Native.Nat.{ℕ, ◌+◌, ◌/◌, ◌%◌, ◌<◌}
use native.Mathlib.Omega.{arith}
use native.Mathlib.Decide.{ℕ_discrete}
use lib.Dec.{eqb}
use borrow.Author.Tests.{eq-eqb, ne_eqb}
use Rattle.words.specs.Word.{bit_at, is_set, with_bit, count}
use Rattle.words.proofs.ChangeLaws.{with-own}
use Rattle.model.specs.Demand3.{one}
use Rattle.window.specs.declared.Cause.{Cause}
use Rattle.model.specs.Window.{Page, Block, Window, capacity_of, pages_of, is_retired}
use Rattle.model.specs.Pages.{values_in_of, holds_value}
use Rattle.model.specs.Steps.{note_nonempty, with_page, put_page, add_live_of, sub_live_of, count_promotion_of, count_demotion_of}
use Rattle.model.specs.Sound.{SoundPage, Sound}
use Rattle.laws_soundness.specs.Change.{marked, Writes, Marking, Changes}
use Rattle.laws_soundness.proofs.PageLaws.{some-counted, live-counts, retired-counts, marked-retired, marks-in, live-part, len-part, held-part}
use Rattle.laws_soundness.proofs.ChangeLaws.{noted-own, noted_other}

-- ---- the words of a sound window note its pages already

module _ (w : Window) (g : ℕ) (ok : Sound w) (below : g < pages_of w) where
  pub noted-again : with_bit (w.blocks (g / 64)).nonempty (g % 64) (one (holds_value (w.pages g))) ≡ (w.blocks (g / 64)).nonempty
  noted-again = rw (← ok.nonempty g below) (with-own (w.blocks (g / 64)).nonempty (g % 64))

  pub summary-again : with_bit w.header.nonempty_summary (g / 64) (one (not (eqb (w.blocks (g / 64)).nonempty 0))) ≡ w.header.nonempty_summary
  summary-again = rw (← ok.summary (g / 64) (omega arith)) (with-own w.header.nonempty_summary (g / 64))

-- ---- marks kept

module _ (w v : Window) (g : ℕ) (q : Page) (ok : Sound w) (below : g < pages_of w) (c : Writes w v g q)
    (block_marks : v.header.retired_blocks ≡ w.header.retired_blocks) (marks : (v.blocks (g / 64)).retired ≡ (w.blocks (g / 64)).retired) where
  same-marks : (b : ℕ) → (v.blocks b).retired ≡ (w.blocks b).retired
  same-marks b = elim (ℕ_discrete b (g / 64)) [ yes e ↦ rw e marks | no e ↦ ap (λ (x : Block). x.retired) (c.other_blocks b e) ]

  pub kept-status : (h : ℕ) → is_retired v h ≡ is_retired w h
  kept-status h = λ i. is_set (block_marks i) (h / 64) || is_set (same-marks (h / 64) i) (h % 64)

  kept-marks : (marked w g ≡ 1 → holds_value q ≡ true) → (v.header.retired_held ≡ 0 → w.header.retired_held ≡ 0) → Marking w v g
  kept-marks holds none = record {
    status = λ h d. inr (kept-status h);
    marks = λ i l e.
        let m : bit_at (w.blocks (g / 64)).retired i ≡ 1 = ap (λ (x : ℕ). bit_at x i) (sym marks) ∙ e in
        elim (ℕ_discrete i (g % 64)) [
          | yes z ↦ rw z (noted-own w v g q c ∙ ap one (holds (rw z at m)))
          | no z ↦ noted_other w v g q c i z ∙ marks-in w ok (g / 64) i l m
        ];
    marks_fit = rw marks (ok.retired_fits (g / 64));
    block_marks = λ b e. ap (λ (x : ℕ). bit_at x b) (sym block_marks) ∙ e;
    no_block_mark = λ z. block_marks ∙ ok.no_block_mark (none z);
  }

  module _ (sound : SoundPage w.header.n (capacity_of w) g q) where
    -- a live page: len and the block's live word count its values
    pub put-live : is_retired w g ≡ false → (q.kind ≡ 2 → (w.header.demote_at ≡ 0 → ⊥) → w.header.demote_at < values_in_of q)
        → (v.blocks (g / 64)).live + values_in_of (w.pages g) ≡ (w.blocks (g / 64)).live + values_in_of q
        → v.header.len + values_in_of (w.pages g) ≡ w.header.len + values_in_of q
        → v.header.retired_held ≡ w.header.retired_held
        → Changes w v g q
    put-live r dense live len held =
        let before = live-counts w g r in
        let after = live-counts v g (kept-status g ∙ r) in
        let same = ap values_in_of c.own_page in
        record {
          writes = c;
          marking = kept-marks (λ m. absurd (true≢false (sym (marked-retired w g m) ∙ r))) (λ z. sym held ∙ z);
          page = sound;
          dense = λ e. dense;
          live = omega (arith, before.0, after.0, same, live);
          len = omega (arith, before.0, after.0, same, len);
          held = omega (arith, before.1, after.1, held);
        }

    -- a retired page that still holds a value: retired_held counts its values
    pub put-retired : is_retired w g ≡ true → holds_value q ≡ true
        → (v.blocks (g / 64)).live ≡ (w.blocks (g / 64)).live → v.header.len ≡ w.header.len
        → v.header.retired_held + values_in_of (w.pages g) ≡ w.header.retired_held + values_in_of q
        → Changes w v g q
    put-retired r holds live len held =
        let before = retired-counts w g r in
        let after = retired-counts v g (kept-status g ∙ r) in
        let same = ap values_in_of c.own_page in
        let some = some-counted q sound.occupied_fits holds in
        record {
          writes = c;
          marking = kept-marks (λ m. holds) (λ z. absurd (omega (arith, some, before.1, held, held-part w ok g below)));
          page = sound;
          dense = λ e. absurd (true≢false (sym r ∙ sym (kept-status g) ∙ e));
          live = omega (arith, before.0, after.0, live);
          len = omega (arith, before.0, after.0, len);
          held = omega (arith, before.1, after.1, same, held);
        }

-- ---- page g replaced by one with the same words

module _ (w : Window) (g : ℕ) (q : Page) (ok : Sound w) (below : g < pages_of w) (sound : SoundPage w.header.n (capacity_of w) g q)
    (kind : q.kind ≡ (w.pages g).kind) (occupied : q.occupied ≡ (w.pages g).occupied) where
  same_writes : Writes w (with_page w g q) g q
  same_writes = record {
    header = refl;
    own_page = rw (eq-eqb g g refl);
    other_pages = λ h d. rw (ne_eqb h g d);
    other_blocks = λ b d. refl;
    nonempty = rw occupied (sym (noted-again w g ok below));
    summary = sym (summary-again w g ok below);
  }

  pub put_same : is_retired w g ≡ false → Changes w (with_page w g q) g q
  put_same r =
      let same = ap count occupied in
      put-live w (with_page w g q) g q ok below same_writes refl refl sound r (λ k n. rw same (ok.dense g below r (sym kind ∙ k) n)) (rw same) (rw same) refl

-- ---- k values fewer in the live page g

module _ (w : Window) (c : Cause) (g k : ℕ) (q : Page) (demoted : Bool) where
  abbrev pub fewer : Window
  fewer = count_demotion_of c (put_page (sub_live_of w (g / 64) k) g q) demoted

  fewer_writes : Writes w fewer g q
  unfolding note_nonempty
  fewer_writes = record {
    header = refl;
    own_page = rw (eq-eqb g g refl);
    other_pages = λ h d. rw (ne_eqb h g d);
    other_blocks = λ b d. rw (ne_eqb b (g / 64) d);
    nonempty = rw (eq-eqb (g / 64) (g / 64) refl, eq-eqb g g refl);
    summary = rw (eq-eqb (g / 64) (g / 64) refl);
  }

  pub put-fewer : Sound w → g < pages_of w → is_retired w g ≡ false → SoundPage w.header.n (capacity_of w) g q
      → (q.kind ≡ 2 → (w.header.demote_at ≡ 0 → ⊥) → w.header.demote_at < values_in_of q) → values_in_of q + k ≡ values_in_of (w.pages g)
      → Changes w fewer g q
  unfolding note_nonempty
  put-fewer ok below r sound dense e =
      let own = eq-eqb (g / 64) (g / 64) refl in
      let n = (live-counts w g r).0 in
      put-live w fewer g q ok below fewer_writes refl (rw own) sound r dense
      (rw own (omega (arith, n, live-part w ok g below))) (omega (arith, n, len-part w ok g below)) refl

-- ---- k values more in the live page g

module _ (w : Window) (g k : ℕ) (q : Page) (promoted : Bool) where
  abbrev pub more : Window
  more = add_live_of (count_promotion_of (put_page w g q) promoted) (g / 64) k

  more-writes : Writes w more g q
  unfolding note_nonempty
  more-writes = record {
    header = refl;
    own_page = rw (eq-eqb g g refl);
    other_pages = λ h d. rw (ne_eqb h g d);
    other_blocks = λ b d. rw (ne_eqb b (g / 64) d);
    nonempty = rw (eq-eqb (g / 64) (g / 64) refl, eq-eqb g g refl);
    summary = rw (eq-eqb (g / 64) (g / 64) refl);
  }

  pub put-more : Sound w → g < pages_of w → is_retired w g ≡ false → SoundPage w.header.n (capacity_of w) g q
      → (q.kind ≡ 2 → (w.header.demote_at ≡ 0 → ⊥) → w.header.demote_at < values_in_of q) → values_in_of q ≡ values_in_of (w.pages g) + k
      → Changes w more g q
  unfolding note_nonempty
  put-more ok below r sound dense e =
      let own = eq-eqb (g / 64) (g / 64) refl in
      put-live w more g q ok below more-writes refl (rw own) sound r dense (rw own (omega arith)) (omega arith) refl
