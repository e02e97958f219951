-- Values of a live page taken out by position keep a window sound. Assumes nothing.
use mathlib.Core.Path.{◌≡◌, refl, sym, ◌∙◌}
use mathlib.Core.Bool.{Bool, true, false, not, ◌||◌, true≢false}
use mathlib.Core.Logic.{inl, inr, ⊎_elim}
use Prim.Native.Nat.{ℕ, ◌/◌, ◌%◌, ◌<◌}
use native.Mathlib.Omega.{arith}
use native.Mathlib.Decide.{ℕ_discrete}
use lib.ListN.{length}
use borrow.Author.Tests.{eq-eqb, ne_eqb}
use Rattle.words.proofs.CaseLaws.{bool}
use Rattle.words.specs.Word.{is_set}
use Rattle.window.specs.declared.Cause.TheVariants.{Range}
use Rattle.model.specs.Window.{Page, Window, capacity_of, pages_of, is_retired}
use Rattle.model.specs.Pages.{holds_value, demotes, after_removal, drain_page, PageDrained}
use Rattle.model.specs.Steps.{note_nonempty, remove_slots_of}
use Rattle.page_base.proofs.PlaceLaws.{placed, all_here}
use Rattle.page_remove.proofs.StandLaws.{after-count, after-dense}
use Rattle.page_remove.proofs.RemoveLaws.{after-sound}
use Rattle.page_remove.proofs.DrainLaws.{drain-placed, drain-here, drain-count}
use Rattle.laws_soundness.specs.Change.{Proper, SameStatus, Changes}
use Rattle.laws_soundness.proofs.PageLaws.{or-neither, holds-occupied}
use Rattle.laws_soundness.proofs.ChangeLaws.{change-proper}
use Rattle.laws_soundness.proofs.PutLaws.{fewer, put-fewer}
use Rattle.laws_soundness.specs.Retire.{with_block_marks, Retiring}

not-false : (a : Bool) → not a ≡ false → a ≡ true
not-false true e = refl
not-false false e = absurd (true≢false e)

module _ (w : Window) (g : ℕ) (P : ℕ → Bool) where
  abbrev d : PageDrained
  d = drain_page 64 0 P 64 (w.pages g)

  abbrev q : Page
  q = after_removal w.header.demote_at d.page

  -- the values are taken out
  abbrev taken : Window
  taken = fewer w Range g (length d.out) q (demotes w.header.demote_at d.page)

  -- what holds of the window unchanged, and with the values of a live page taken out
  slots-cases : (B : Window → Type 0) → B w → (is_retired w g ≡ false → holds_value (w.pages g) ≡ true → B taken) → B (remove_slots_of w g P).after
  unfolding remove_slots_of
  slots-cases B same out =
      bool (is_retired w g || not (holds_value (w.pages g)))
      (λ e. rw e same)
      (λ e. let n = or-neither (is_retired w g) (not (holds_value (w.pages g))) e in rw e (out n.0 (not-false (holds_value (w.pages g)) n.1)))

  slots-changes : Proper w → g < pages_of w → is_retired w g ≡ false → Changes w taken g q
  slots-changes ok l r =
      let n = w.header.n in
      let at = placed n (capacity_of w) g (w.pages g) (ok.sound.page g l) in
      put-fewer w Range g (length d.out) q (demotes w.header.demote_at d.page) ok.sound l r
      (after-sound n (capacity_of w) g d.page w.header.demote_at ok.sound.within.demote
      (drain-placed P n 64 0 64 (w.pages g) (omega arith) at)
      (drain-here P n 64 0 64 (w.pages g) (omega arith) at (capacity_of w) g (all_here n (capacity_of w) g (w.pages g) (ok.sound.page g l))))
      (λ k z. after-dense d.page w.header.demote_at k)
      (omega (arith, after-count d.page w.header.demote_at, drain-count P n 64 0 64 (w.pages g) (omega arith) at))

  pub proper-slots : Proper w → g < pages_of w → Proper (remove_slots_of w g P).after
  proper-slots ok l = slots-cases Proper ok (λ r h. change-proper w taken g q ok l (slots-changes ok l r))

-- ---- while values are retired

module _ (w : Window) (g : ℕ) (P : ℕ → Bool) where
  abbrev out : Window
  out = taken w g P

  same-marks : (b : ℕ) → (out.blocks b).retired ≡ (w.blocks b).retired
  unfolding note_nonempty
  same-marks b = elim (ℕ_discrete b (g / 64)) [ yes e ↦ rw (e, eq-eqb (g / 64) (g / 64) refl) | no e ↦ rw (ne_eqb b (g / 64) e) ]

  -- the pages stay as retired as they are, whatever the block marks r
  same-retired : (r h : ℕ) → is_retired (with_block_marks out r) h ≡ is_retired (with_block_marks w r) h
  same-retired r h = λ i. is_set r (h / 64) || is_set (same-marks (h / 64) i) (h % 64)

  taken-status : (ok : Retiring w) → is_retired w g ≡ false → holds_value (w.pages g) ≡ true → (h : ℕ) → SameStatus (with_block_marks out ok.marks) out h
  unfolding note_nonempty
  taken-status ok r o h =
      ⊎_elim
      (λ z. elim (ℕ_discrete h g) [
        | yes e ↦ absurd (holds-occupied (w.pages g) o (rw e at z))
        | no e ↦ inl (rw (ne_eqb h g e) z)
      ])
      (λ s. inr (same-retired w.header.retired_blocks h ∙ s ∙ sym (same-retired ok.marks h)))
      (ok.status h)

  taken-retiring : (ok : Retiring w) → g < pages_of w → is_retired w g ≡ false → holds_value (w.pages g) ≡ true → Retiring out
  unfolding note_nonempty
  taken-retiring ok l r o =
      let s = ⊎_elim (λ z. absurd (holds-occupied (w.pages g) o z)) (λ s. sym s ∙ r) (ok.status g) in
      record {
        marks = ok.marks;
        proper = change-proper (with_block_marks w ok.marks) (with_block_marks out ok.marks) g (q w g P) ok.proper l (slots-changes (with_block_marks w ok.marks) g P ok.proper l s);
        status = taken-status ok r o;
        block_bits = ok.block_bits;
      }

  pub retiring-slots : Retiring w → g < pages_of w → Retiring (remove_slots_of w g P).after
  retiring-slots ok l = slots-cases w g P Retiring ok (taken-retiring ok l)
