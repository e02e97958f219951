-- Values of a retired page released keep a window sound. Assumes nothing.
use mathlib.Core.Path.{◌≡◌, refl, sym, ap, ◌∙◌}
use mathlib.Core.Bool.{true, ◌||◌}
use mathlib.Core.Logic.{inl, inr}
use Prim.Native.Nat.{ℕ, zero, suc, ◌+◌, ◌-◌, ◌/◌, ◌%◌, ◌≤◌, ◌<◌}
use native.Mathlib.Omega.{arith}
use native.Mathlib.Decide.{ℕ_discrete, dec_lt}
use lib.Dec.{eqb}
use lib.ListN.{length}
use borrow.Author.Tests.{eq-eqb, ne_eqb, eqb-true, eqb-false}
use Rattle.words.proofs.CaseLaws.{bool}
use Rattle.words.specs.Word.{bit_at, is_set, clear_bit, count, lowest}
use Rattle.words.proofs.BitLaws.{bit-none}
use Rattle.words.proofs.ChangeLaws.{with-same, with-other, with-lt}
use Rattle.words.proofs.CountLaws.{count-zero}
use Rattle.words.proofs.LowestLaws.{lowest-is, lowest-some}
use Rattle.model.specs.Window.{Page, Block, Window, capacity_of, pages_of, cell_of, is_retired}
use Rattle.model.specs.Pages.{values_in_of, holds_value, words, take_cell_of, unless_emptied_of, drain_page, PageDrained}
use Rattle.model.specs.Steps.{note_nonempty, with_header, set_held, set_cursor, set_retired_blocks, put_page, set_marks, drop_block_marks, all_positions, release_page_of}
use Rattle.model.specs.Sound.{SoundPage, retired_in, Sound}
use Rattle.page_base.specs.Page.{Placed}
use Rattle.page_base.proofs.PlaceLaws.{placed, cell-some, cell-used, take-placed, all_here}
use Rattle.page_remove.proofs.StandLaws.{clear-fewer, take_count, unless-count}
use Rattle.page_remove.proofs.RemoveLaws.{unless-sound}
use Rattle.page_remove.proofs.DrainLaws.{drain-zero, drain-none, drain-first, drain-placed, drain-here, drain-count}
use Rattle.laws_soundness.specs.Change.{Proper, marked, SameStatus, Writes, Marking, Changes}
use Rattle.laws_soundness.proofs.SumLaws.{sum-two}
use Rattle.laws_soundness.proofs.PageLaws.{or-neither, none-counted, empty-counts, retired-counts, marks-in, held-part}
use Rattle.laws_soundness.proofs.ChangeLaws.{noted_other, change-proper}
use Rattle.laws_soundness.proofs.PutLaws.{put-retired}

-- ---- a page drained whole

pub drain-whole : (n k : ℕ) (p : Page) → Placed n p → count p.occupied ≤ k → (drain_page 64 0 all_positions k p).page.occupied ≡ 0
drain-whole n zero p ok l = ap (λ (d : PageDrained). d.page.occupied) (drain-zero all_positions 64 0 p) ∙ count-zero 64 p.occupied ok.occupied_fits (omega arith)
drain-whole n (suc k) p ok l =
    elim (ℕ_discrete p.occupied 0) [
      | yes z ↦ ap (λ (d : PageDrained). d.page.occupied) (drain-none all_positions (suc k) p (λ i m. ne_eqb (bit_at p.occupied i) 1 (λ e. omega (arith, ap (λ (x : ℕ). bit_at x i) z, bit-none i)))) ∙ z
      | no z ↦
          let q = lowest p.occupied 0 in
          let c = cell_of p q in
          let m = lowest-some p.occupied ok.occupied_fits z in
          let least = lowest-is p.occupied 0 (omega arith) in
          let i = cell-some n p ok q m (least.held m) in
          let u = cell-used p q i in
          ap (λ (d : PageDrained). d.page.occupied)
          (drain-first all_positions k q p m (eq-eqb (bit_at p.occupied q) 1 (least.held m))
          (λ j y. ne_eqb (bit_at p.occupied j) 1 (λ e. omega (arith, least.none j (omega arith) y))) u.1)
          ∙ drain-whole n k (take_cell_of p c) (take-placed n p ok c i u.0) (omega (arith, take_count n p ok c i u.0))
    ]

-- ---- a page emptied: its mark goes, and the block marks become r

-- page g is q, which is noted, and `held` values are held; its mark is gone too
abbrev put_held : Window → ℕ → ℕ → Page → Window
put_held w g held q = put_page (with_header w (set_held w.header held)) g q

abbrev unmarked : Window → ℕ → ℕ → Page → Window
unmarked w g held q = set_marks (put_held w g held q) (g / 64) (clear_bit ((put_held w g held q).blocks (g / 64)).retired (g % 64))

module _ (w : Window) (g held r : ℕ) (q : Page) (ok : Proper w) (below : g < pages_of w) (retired : is_retired w g ≡ true) where
  abbrev emptied : Window
  emptied = with_header (unmarked w g held q) (set_retired_blocks (unmarked w g held q).header r)

  emptied-writes : Writes w emptied g q
  unfolding note_nonempty
  emptied-writes = record {
    header = refl;
    own_page = rw (eq-eqb g g refl);
    other_pages = λ h d. rw (ne_eqb h g d);
    other_blocks = λ b d. rw (ne_eqb b (g / 64) d);
    nonempty = rw (eq-eqb (g / 64) (g / 64) refl, eq-eqb g g refl);
    summary = rw (eq-eqb (g / 64) (g / 64) refl);
  }

  own-marks : (emptied.blocks (g / 64)).retired ≡ clear_bit (w.blocks (g / 64)).retired (g % 64)
  unfolding note_nonempty
  own-marks = rw (eq-eqb (g / 64) (g / 64) refl)

  own-live : (emptied.blocks (g / 64)).live ≡ (w.blocks (g / 64)).live
  unfolding note_nonempty
  own-live = rw (eq-eqb (g / 64) (g / 64) refl)

  emptied-header : (emptied.header.retired_blocks ≡ r) × (emptied.header.len ≡ w.header.len) × (emptied.header.retired_held ≡ held)
  unfolding note_nonempty
  emptied-header = (refl, refl, refl)

  -- the marks of other pages stay
  marks-kept : (h : ℕ) → (h ≡ g → ⊥) → marked emptied h ≡ marked w h
  marks-kept h d = elim (ℕ_discrete (h / 64) (g / 64)) [
    | yes e ↦
        ap (λ (b : ℕ). bit_at (emptied.blocks b).retired (h % 64)) e
        ∙ ap (λ (x : ℕ). bit_at x (h % 64)) own-marks
        ∙ with-other (w.blocks (g / 64)).retired (g % 64) 0 (h % 64) (omega arith) (λ z. d (omega arith))
        ∙ ap (λ (b : ℕ). bit_at (w.blocks b).retired (h % 64)) (sym e)
    | no e ↦ ap (λ (x : Block). bit_at x.retired (h % 64)) (emptied-writes.other_blocks (h / 64) e)
  ]

  module _ (empty : q.occupied ≡ 0) (sound : SoundPage w.header.n (capacity_of w) g q) (counted : held + values_in_of (w.pages g) ≡ w.header.retired_held)
      (none-held : held ≡ 0 → r ≡ 0) (some-held : (held ≡ 0 → ⊥) → r ≡ w.header.retired_blocks) where
    -- when no value is held any more the other retired pages are empty
    other-empty : held ≡ 0 → (h : ℕ) → (h ≡ g → ⊥) → is_retired w h ≡ true → (w.pages h).occupied ≡ 0
    other-empty z h d e = elim (dec_lt h (pages_of w)) [
      | yes l ↦
          let two = sum-two (pages_of w) (retired_in w) g h below l d in
          count-zero 64 (w.pages h).occupied (ok.sound.page h l).occupied_fits
          (omega (arith, two, ok.sound.held, counted, (retired-counts w g retired).1, (retired-counts w h e).1))
      | no l ↦ ap (λ (p : Page). p.occupied) (ok.past h (omega arith))
    ]

    emptied-status : (h : ℕ) → (h ≡ g → ⊥) → SameStatus w emptied h
    emptied-status h d =
        let bits : is_retired emptied h ≡ (is_set r (h / 64) || eqb (marked w h) 1) = λ i. is_set (emptied-header.0 i) (h / 64) || eqb (marks-kept h d i) 1 in
        elim (ℕ_discrete held 0) [
          | yes z ↦
              bool (is_retired w h)
              (λ e. inl (other-empty z h d e))
              (λ e. inr (bits ∙ rw (none-held z, bit-none (h / 64)) ((or-neither (is_set w.header.retired_blocks (h / 64)) (eqb (marked w h) 1) e).1 ∙ sym e)))
          | no z ↦ inr (bits ∙ ap (λ (x : ℕ). is_set x (h / 64) || eqb (marked w h) 1) (some-held z))
        ]

    emptied-marking : Marking w emptied g
    emptied-marking = record {
      status = emptied-status;
      marks = λ i l e.
          let m = ap (λ (x : ℕ). bit_at x i) (sym own-marks) ∙ e in
          let d : i ≡ g % 64 → ⊥ = λ z. omega (arith, m, ap (bit_at (clear_bit (w.blocks (g / 64)).retired (g % 64))) z, with-same (w.blocks (g / 64)).retired (g % 64) 0 (omega arith)) in
          noted_other w emptied g q emptied-writes i d ∙ marks-in w ok.sound (g / 64) i l (clear-fewer (w.blocks (g / 64)).retired (g % 64) i m);
      marks_fit = rw own-marks (with-lt 64 (w.blocks (g / 64)).retired (g % 64) 0 (ok.sound.retired_fits (g / 64)) (omega arith) (omega arith));
      block_marks = λ b e.
          let f = ap (λ (x : ℕ). bit_at x b) (sym emptied-header.0) ∙ e in
          elim (ℕ_discrete held 0) [
            | yes z ↦ absurd (omega (arith, f, ap (λ (x : ℕ). bit_at x b) (none-held z), bit-none b))
            | no z ↦ ap (λ (x : ℕ). bit_at x b) (sym (some-held z)) ∙ f
          ];
      no_block_mark = λ z. emptied-header.0 ∙ none-held (sym emptied-header.2 ∙ z);
    }

    emptied-changes : Changes w emptied g q
    emptied-changes =
        let before = retired-counts w g retired in
        let after = empty-counts emptied g (ap (λ (p : Page). p.occupied) emptied-writes.own_page ∙ empty) in
        record {
          writes = emptied-writes;
          marking = emptied-marking;
          page = sound;
          dense = λ e k. absurd (sound.some_occupied (λ z. omega arith) empty);
          live = omega (arith, before.0, after.0, own-live);
          len = omega (arith, before.0, after.0, emptied-header.1);
          held = omega (arith, before.1, after.1, emptied-header.2, counted);
        }

module _ (w : Window) (g held : ℕ) (q : Page) (ok : Proper w) (below : g < pages_of w) (retired : is_retired w g ≡ true) (sound : SoundPage w.header.n (capacity_of w) g q) where
  pub none_left : q.occupied ≡ 0 → held + values_in_of (w.pages g) ≡ w.header.retired_held
      → Changes w (drop_block_marks (unmarked w g held q)) g q
  unfolding note_nonempty
  none_left empty counted =
      bool (eqb held 0)
      (λ e. rw e (emptied-changes w g held 0 q ok below retired empty sound counted (λ z. refl) (λ n. absurd (n (eqb-true held 0 e)))))
      (λ e. rw e (emptied-changes w g held w.header.retired_blocks q ok below retired empty sound counted (λ z. absurd (eqb-false held 0 e z)) (λ n. refl)))

  -- a page with values left
  left-writes : Writes w (put_held w g held q) g q
  unfolding note_nonempty
  left-writes = record {
    header = refl;
    own_page = rw (eq-eqb g g refl);
    other_pages = λ h d. rw (ne_eqb h g d);
    other_blocks = λ b d. rw (ne_eqb b (g / 64) d);
    nonempty = rw (eq-eqb (g / 64) (g / 64) refl, eq-eqb g g refl);
    summary = rw (eq-eqb (g / 64) (g / 64) refl);
  }

  pub some_left : holds_value q ≡ true → held + values_in_of (w.pages g) ≡ w.header.retired_held + values_in_of q
      → Changes w (put_held w g held q) g q
  unfolding note_nonempty
  some_left holds counted =
      put-retired w (put_held w g held q) g q ok.sound below left-writes refl (rw (eq-eqb (g / 64) (g / 64) refl)) sound retired holds (rw (eq-eqb (g / 64) (g / 64) refl)) refl counted

-- ---- release of a page

module _ (w : Window) (g k : ℕ) (ok : Proper w) (below : g < pages_of w) (retired : is_retired w g ≡ true) where
  abbrev d : PageDrained
  d = drain_page 64 0 all_positions k (w.pages g)

  abbrev held : ℕ
  held = w.header.retired_held - length d.out

  page-placed : Placed w.header.n (w.pages g)
  page-placed = placed w.header.n (capacity_of w) g (w.pages g) (ok.sound.page g below)

  drained-sound : SoundPage w.header.n (capacity_of w) g (unless_emptied_of d.page)
  drained-sound =
      unless-sound w.header.n (capacity_of w) g d.page (drain-placed all_positions w.header.n 64 0 k (w.pages g) (omega arith) page-placed)
      (drain-here all_positions w.header.n 64 0 k (w.pages g) (omega arith) page-placed (capacity_of w) g (all_here w.header.n (capacity_of w) g (w.pages g) (ok.sound.page g below)))

  drained-counted : held + values_in_of (w.pages g) ≡ w.header.retired_held + values_in_of (unless_emptied_of d.page)
  drained-counted = omega (
    arith,
    unless-count d.page,
    drain-count all_positions w.header.n 64 0 k (w.pages g) (omega arith) page-placed,
    (retired-counts w g retired).1,
    held-part w ok.sound g below,
  )

  pub release-changes : Changes w (release_page_of w g k).after g (unless_emptied_of d.page)
  unfolding release_page_of
  release-changes =
      let s = drained-sound in
      let n = drained-counted in
      bool (holds_value d.page)
      (λ e. rw e (some_left w g held d.page ok below retired (rw e at s) e (rw e at n)))
      (λ e. rw e (none_left w g held (words 0 0 0 d.page) ok below retired (rw e at s) refl (omega (arith, rw e at n, none-counted (words 0 0 0 d.page) refl))))

  pub proper-release-page : Proper (release_page_of w g k).after
  proper-release-page = change-proper w (release_page_of w g k).after g (unless_emptied_of d.page) ok below release-changes

-- ---- what goes with a release

-- a sound window that holds no retired value has no block mark to drop
pub drop-same : (w : Window) → Sound w → drop_block_marks w ≡ w
drop-same w ok =
    bool (eqb w.header.retired_held 0)
    (λ e. rw e (λ i. with_header w (set_retired_blocks w.header (sym (ok.no_block_mark (eqb-true w.header.retired_held 0 e)) i))))
    (λ e. rw e)

-- the cursor moved to another page
pub proper-cursor : (w : Window) (g : ℕ) → Proper w → g < pages_of w → Proper (with_header w (set_cursor w.header g))
proper-cursor w g ok l =
    let s = ok.sound in
    record {
      past = ok.past;
      sound = record {
        within = s.within;
        page = s.page;
        dense = s.dense;
        nonempty = s.nonempty;
        summary = s.summary;
        marks = s.marks;
        live = s.live;
        len = s.len;
        held = s.held;
        cursor = l;
        nonempty_bits = s.nonempty_bits;
        retired_bits = s.retired_bits;
        summary_bits = s.summary_bits;
        retired_block_bits = s.retired_block_bits;
        no_block_mark = s.no_block_mark;
        no_page_mark = s.no_page_mark;
        nonempty_fits = s.nonempty_fits;
        retired_fits = s.retired_fits;
      };
    }
