-- A window in which values were retired is proper once its block marks drop, if nothing is retired then. Assumes nothing.
use mathlib.Core.Path.{◌≡◌, refl, sym, ap, subst, ◌∙◌}
use mathlib.Core.Bool.{true}
use mathlib.Core.Logic.{inl, inr, ⊎_elim}
use Prim.Native.Nat.{ℕ, ◌+◌, ◌*◌, ◌/◌, ◌%◌, ◌≤◌, ◌<◌}
use native.Mathlib.Omega.{arith}
use native.Mathlib.Decide.{dec_lt}
use lib.Dec.{eqb}
use borrow.Author.Tests.{eqb-true, eqb-false}
use Rattle.words.proofs.CaseLaws.{bool}
use Rattle.words.specs.Word.{bit_at, is_set}
use Rattle.words.proofs.BitLaws.{bit-none}
use Rattle.words.proofs.CountLaws.{count-zero}
use Rattle.window.specs.declared.AdaptiveReceiverPacketWindow.{AdaptiveReceiverPacketWindow}
use Rattle.model.specs.Table.{sum}
use Rattle.model.specs.Demand3.{one}
use Rattle.model.specs.Window.{Page, Window, window, pages_of, blocks_of, is_retired}
use Rattle.model.specs.Pages.{values_in_of, holds_value}
use Rattle.model.specs.Steps.{retiring_header, drop_block_marks}
use Rattle.model.specs.Sound.{live_in, retired_in, Sound}
use Rattle.laws_soundness.specs.Change.{Proper, noted, marked, SameStatus}
use Rattle.laws_soundness.proofs.SumLaws.{sum_same, sum-add, sum-part}
use Rattle.laws_soundness.proofs.PageLaws.{one-true, bit-not-one, or-neither, page-total, retired-counts, same-counts, kept-dense, marks-in, no-marks}
use Rattle.laws_soundness.specs.Retire.{with_block_marks, Retiring, Retires}

-- ---- live and retired values together are those of the pages

pub sum-total : (w : Window) (n : ℕ) → sum n (live_in w) + sum n (retired_in w) ≡ sum n (λ (g : ℕ). values_in_of (w.pages g))
sum-total w n = sym (sum-add n (live_in w) (retired_in w)) ∙ sum_same n (λ (g : ℕ). live_in w g + retired_in w g) (λ (g : ℕ). values_in_of (w.pages g)) (λ g l. page-total w g)

pub same_total : (w v : Window) → v.pages ≡ w.pages → (n : ℕ) → sum n (live_in v) + sum n (retired_in v) ≡ sum n (live_in w) + sum n (retired_in w)
same_total w v e n = sum-total v n ∙ ap (λ (f : ℕ → Page). sum n (λ (g : ℕ). values_in_of (f g))) e ∙ sym (sum-total w n)

-- ---- values retired in a sound window

module _ (w v : Window) (ok : Sound w) (c : Retires w v) where
  noted-same : (h : ℕ) → noted v h ≡ noted w h
  noted-same h = ap (λ (x : ℕ). bit_at x (h % 64)) (c.nonempty (h / 64))

  noted-is : (h : ℕ) → h < pages_of w → noted v h ≡ one (holds_value (v.pages h))
  noted-is h l = noted-same h ∙ ok.nonempty h l ∙ ap (λ (f : ℕ → Page). one (holds_value (f h))) (sym c.pages)

  marks-noted : (h : ℕ) → marked v h ≡ 1 → noted w h ≡ 1
  marks-noted h e = c.marks (h / 64) (h % 64) (omega arith) e

  marks-hold : (h : ℕ) → h < pages_of w → marked v h ≡ 1 → holds_value (v.pages h) ≡ true
  marks-hold h l e = one-true (holds_value (v.pages h)) (sym (noted-is h l) ∙ noted-same h ∙ marks-noted h e)

  marks-past : (h : ℕ) → pages_of w ≤ h → marked v h ≡ 0
  marks-past h l = bit-not-one (v.blocks (h / 64)).retired (h % 64) (λ e. omega (arith, ok.nonempty_bits h l, marks-noted h e))

  -- of v, with the parts of the header that are w's
  retired-sound : (v.header.retired_held ≡ 0 → v.header.retired_blocks ≡ 0)
      → Sound (window (retiring_header w.header v.header.len v.header.retired_held v.header.retired_blocks) v.pages v.blocks)
  retired-sound none = record {
    within = ok.within;
    page = λ h l. rw c.pages (ok.page h l);
    dense = λ h l r. kept-dense w v h ok l (ap (λ (f : ℕ → Page). f h) c.pages) (c.status h r);
    nonempty = noted-is;
    summary = λ b l. rw (c.nonempty b) (ok.summary b l);
    marks = marks-hold;
    live = c.live;
    len = c.len;
    held = c.held;
    cursor = ok.cursor;
    nonempty_bits = λ h l. noted-same h ∙ ok.nonempty_bits h l;
    retired_bits = marks-past;
    summary_bits = ok.summary_bits;
    retired_block_bits = c.block_bits;
    no_block_mark = none;
    no_page_mark = λ z b l. no-marks v (pages_of w) (λ h k. rw c.pages (ok.page h k).occupied_fits) marks-hold marks-past c.held c.marks_fit z b;
    nonempty_fits = λ b. rw (c.nonempty b) (ok.nonempty_fits b);
    retired_fits = c.marks_fit;
  }

  pub retires-sound : (v.header.retired_held ≡ 0 → v.header.retired_blocks ≡ 0) → Sound v
  retires-sound none = subst Sound (λ i. window (sym c.header i) v.pages v.blocks) (retired-sound none)

pub retires-proper : (w v : Window) → Proper w → Retires w v → (v.header.retired_held ≡ 0 → v.header.retired_blocks ≡ 0) → Proper v
retires-proper w v ok c none = record {
  sound = retires-sound w v ok.sound c none;
  past = λ h l. let k = rw c.header at l in ap (λ (f : ℕ → Page). f h) c.pages ∙ ok.past h k;
}

-- ---- none retired, then some, then more

pub retires-self : (w : Window) → Sound w → Retires w w
retires-self w ok = record {
  header = refl;
  pages = refl;
  nonempty = λ b. refl;
  status = λ h e. inr e;
  marks = marks-in w ok;
  marks_fit = ok.retired_fits;
  block_bits = ok.retired_block_bits;
  live = ok.live;
  len = ok.len;
  held = ok.held;
}

module _ (u w v : Window) (c : Retires u w) (d : Retires w v) where
  same_size : w.header.window_size ≡ u.header.window_size
  same_size = ap (λ (h : AdaptiveReceiverPacketWindow). h.window_size) c.header

  pub retires-then : Retires u v
  retires-then = record {
    header = d.header ∙ ap (λ (h : AdaptiveReceiverPacketWindow). retiring_header h v.header.len v.header.retired_held v.header.retired_blocks) c.header;
    pages = d.pages ∙ c.pages;
    nonempty = λ b. d.nonempty b ∙ c.nonempty b;
    status = λ h e. ⊎_elim (λ z. inl (ap (λ (f : ℕ → Page). (f h).occupied) (sym c.pages) ∙ z)) (λ r. c.status h r) (d.status h e);
    marks = λ b i l e. ap (λ (x : ℕ). bit_at x i) (sym (c.nonempty b)) ∙ d.marks b i l e;
    marks_fit = d.marks_fit;
    block_bits = rw same_size at d.block_bits;
    live = rw same_size at d.live;
    len = rw same_size at d.len;
    held = rw same_size at d.held;
  }

-- block marks that come and go on pages without a value
module _ (w v : Window) (c : Retires w v) (r : ℕ) (bits : (b : ℕ) → blocks_of w ≤ b → bit_at r b ≡ 0) (same : (h : ℕ) → SameStatus v (with_block_marks v r) h) where
  same_in : (h : ℕ) → (live_in (with_block_marks v r) h ≡ live_in v h) × (retired_in (with_block_marks v r) h ≡ retired_in v h)
  same_in h = same-counts v (with_block_marks v r) h refl (same h)

  pub retires-marks : Retires w (with_block_marks v r)
  retires-marks = record {
    header = ap (λ (h : AdaptiveReceiverPacketWindow). retiring_header h v.header.len v.header.retired_held r) c.header;
    pages = c.pages;
    nonempty = c.nonempty;
    status = λ h e. ⊎_elim (λ z. inl (ap (λ (f : ℕ → Page). (f h).occupied) (sym c.pages) ∙ z)) (λ s. c.status h (sym s ∙ e)) (same h);
    marks = c.marks;
    marks_fit = c.marks_fit;
    block_bits = bits;
    live = λ b l. c.live b l ∙ sum_same 64 (λ (i : ℕ). live_in v (64 * b + i)) (λ (i : ℕ). live_in (with_block_marks v r) (64 * b + i)) (λ i k. sym (same_in (64 * b + i)).0);
    len = c.len ∙ sum_same (pages_of w) (live_in v) (live_in (with_block_marks v r)) (λ h l. sym (same_in h).0);
    held = c.held ∙ sum_same (pages_of w) (retired_in v) (retired_in (with_block_marks v r)) (λ h l. sym (same_in h).1);
  }

-- ---- a window while values are retired

pub proper-retiring : (w : Window) → Proper w → Retiring w
proper-retiring w ok = record { marks = w.header.retired_blocks; proper = ok; status = λ h. inr refl; block_bits = ok.sound.retired_block_bits }

module _ (w : Window) (ok : Retiring w) where
  -- what it came from
  pub retiring-from : Retires (with_block_marks w ok.marks) w
  retiring-from =
      let u = with_block_marks w ok.marks in
      retires-marks u u (retires-self u ok.proper.sound) w.header.retired_blocks ok.block_bits ok.status

  pub retiring-proper : (w.header.retired_held ≡ 0 → w.header.retired_blocks ≡ 0) → Proper w
  retiring-proper none = retires-proper (with_block_marks w ok.marks) w ok.proper retiring-from none

  pub retiring-drop : Proper (drop_block_marks w)
  retiring-drop =
      bool (eqb w.header.retired_held 0)
      (λ e. rw e (subst (λ (r : ℕ). Proper (with_block_marks w r)) (ok.proper.sound.no_block_mark (eqb-true w.header.retired_held 0 e)) ok.proper))
      (λ e. rw e (retiring-proper (λ z. absurd (eqb-false w.header.retired_held 0 e z))))

module _ (w v : Window) (ok : Proper w) (c : Retires w v) where
  same_bits : (b : ℕ) → blocks_of v ≤ b → bit_at v.header.retired_blocks b ≡ 0
  same_bits b l = let k = rw c.header at l in c.block_bits b k

  -- while nothing is retired, a retired page has no value
  none-held : v.header.retired_held ≡ 0 → (h : ℕ) → is_retired v h ≡ true → (v.pages h).occupied ≡ 0
  none-held z h e = elim (dec_lt h (pages_of w)) [
    | yes l ↦
        count-zero 64 (v.pages h).occupied (rw c.pages (ok.sound.page h l).occupied_fits)
        (omega (arith, c.held, sum-part (pages_of w) (retired_in v) h l, (retired-counts v h e).1))
    | no l ↦ rw c.pages (ap (λ (p : Page). p.occupied) (ok.past h (omega arith)))
  ]

  dropped-status : v.header.retired_held ≡ 0 → (h : ℕ) → SameStatus v (with_block_marks v 0) h
  dropped-status z h =
      bool (is_retired v h)
      (λ e. inl (none-held z h e))
      (λ e. inr (rw (bit-none (h / 64)) ((or-neither (is_set v.header.retired_blocks (h / 64)) (is_set (v.blocks (h / 64)).retired (h % 64)) e).1 ∙ sym e)))

  pub retires-retiring : Retiring v
  retires-retiring =
      bool (eqb v.header.retired_held 0)
      (λ e.
      let z = eqb-true v.header.retired_held 0 e in
      record {
        marks = 0;
        proper = retires-proper w (with_block_marks v 0) ok (retires-marks w v c 0 (λ b l. bit-none b) (dropped-status z)) (λ y. refl);
        status = λ h. ⊎_elim (λ o. inl o) (λ s. inr (sym s)) (dropped-status z h);
        block_bits = same_bits;
      })
      (λ e. proper-retiring v (retires-proper w v ok c (λ z. absurd (eqb-false v.header.retired_held 0 e z))))

pub retiring-then : (w v : Window) → Retiring w → Retires w v → Retiring v
retiring-then w v ok c = retires-retiring (with_block_marks w ok.marks) v ok.proper (retires-then (with_block_marks w ok.marks) w v (retiring-from w ok) c)
