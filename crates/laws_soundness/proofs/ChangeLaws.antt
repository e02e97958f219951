-- A window that differs from a sound one in one page is sound. Assumes nothing.
use mathlib.Core.Path.{◌≡◌, sym, ap, subst, ◌∙◌}
use mathlib.Core.Bool.{true, false, not}
use mathlib.Core.Logic.{⊎_elim}
use Prim.Native.Nat.{ℕ, ◌+◌, ◌*◌, ◌/◌, ◌%◌, ◌^◌, ◌≤◌, ◌<◌}
use native.Mathlib.Omega.{arith}
use native.Mathlib.Decide.{ℕ_discrete}
use lib.Dec.{eqb}
use Rattle.words.specs.Word.{bit_at}
use Rattle.words.proofs.ChangeLaws.{with-same, with-other, with-lt}
use Rattle.model.specs.Table.{sum}
use Rattle.model.specs.Demand3.{one}
use Rattle.model.specs.Window.{Page, Block, Window, window, capacity_of, pages_of, blocks_of, is_retired}
use Rattle.model.specs.Pages.{values_in_of, holds_value}
use Rattle.model.specs.Steps.{header_with}
use Rattle.model.specs.Sound.{SoundPage, live_in, retired_in, Sound}
use Rattle.laws_soundness.specs.Change.{Proper, noted, marked, Writes, Changes, Alters}
use Rattle.laws_soundness.proofs.SumLaws.{sum_same, sum-but}
use Rattle.laws_soundness.proofs.PageLaws.{one-lt, one-true, bit-not-one, marks-in, same-counts, same-dense, no-marks}

-- ---- what is written

module _ (w v : Window) (g : ℕ) (q : Page) (c : Writes w v g q) where
  pub noted-own : noted v g ≡ one (holds_value q)
  noted-own = ap (λ (x : ℕ). bit_at x (g % 64)) c.nonempty ∙ with-same (w.blocks (g / 64)).nonempty (g % 64) (one (holds_value q)) (one-lt (holds_value q))

  pub noted_other : (i : ℕ) → (i ≡ g % 64 → ⊥) → bit_at (v.blocks (g / 64)).nonempty i ≡ bit_at (w.blocks (g / 64)).nonempty i
  noted_other i d = ap (λ (x : ℕ). bit_at x i) c.nonempty ∙ with-other (w.blocks (g / 64)).nonempty (g % 64) (one (holds_value q)) i (one-lt (holds_value q)) d

  noted-kept : (h : ℕ) → (h ≡ g → ⊥) → noted v h ≡ noted w h
  noted-kept h d = elim (ℕ_discrete (h / 64) (g / 64)) [
    | yes e ↦
        ap (λ (b : ℕ). bit_at (v.blocks b).nonempty (h % 64)) e
        ∙ noted_other (h % 64) (λ z. d (omega arith))
        ∙ ap (λ (b : ℕ). bit_at (w.blocks b).nonempty (h % 64)) (sym e)
    | no e ↦ ap (λ (x : Block). bit_at x.nonempty (h % 64)) (c.other_blocks (h / 64) e)
  ]

  summary-own : bit_at v.header.nonempty_summary (g / 64) ≡ one (not (eqb (v.blocks (g / 64)).nonempty 0))
  summary-own = ap (λ (x : ℕ). bit_at x (g / 64)) c.summary ∙ with-same w.header.nonempty_summary (g / 64) _ (one-lt (not (eqb (v.blocks (g / 64)).nonempty 0)))

  summary-other : (b : ℕ) → (b ≡ g / 64 → ⊥) → bit_at v.header.nonempty_summary b ≡ bit_at w.header.nonempty_summary b
  summary-other b e = ap (λ (x : ℕ). bit_at x b) c.summary ∙ with-other w.header.nonempty_summary (g / 64) _ b (one-lt (not (eqb (v.blocks (g / 64)).nonempty 0))) e

-- ---- a changed window

module _ (w v : Window) (g : ℕ) (q : Page) (ok : Sound w) (below : g < pages_of w) (c : Changes w v g q) where
  abbrev wrote : Writes w v g q
  wrote = c.writes

  own_block : g / 64 < blocks_of w
  own_block = omega arith

  -- what holds of page g, and of every other
  each-page : {B : ℕ → Type 0} → B g → ((h : ℕ) → (h ≡ g → ⊥) → B h) → (h : ℕ) → B h
  each-page {B} own other h = elim (ℕ_discrete h g) [ yes e ↦ subst B (sym e) own | no e ↦ other h e ]

  -- the words
  noted-is : (h : ℕ) → h < pages_of w → noted v h ≡ one (holds_value (v.pages h))
  noted-is = each-page {B = λ (h : ℕ). h < pages_of w → noted v h ≡ one (holds_value (v.pages h))}
      (λ l. noted-own w v g q wrote ∙ ap (λ (p : Page). one (holds_value p)) (sym wrote.own_page))
      (λ h d l. noted-kept w v g q wrote h d ∙ ok.nonempty h l ∙ ap (λ (p : Page). one (holds_value p)) (sym (wrote.other_pages h d)))

  noted-past : (h : ℕ) → pages_of w ≤ h → noted v h ≡ 0
  noted-past h l = noted-kept w v g q wrote h (λ e. omega arith) ∙ ok.nonempty_bits h l

  nonempty-lt : (b : ℕ) → (v.blocks b).nonempty < 2 ^ 64
  nonempty-lt b = elim (ℕ_discrete b (g / 64)) [
    | yes e ↦ rw (e, wrote.nonempty) (with-lt 64 (w.blocks (g / 64)).nonempty (g % 64) (one (holds_value q)) (ok.nonempty_fits (g / 64)) (omega arith) (one-lt (holds_value q)))
    | no e ↦ rw (wrote.other_blocks b e) (ok.nonempty_fits b)
  ]

  summary-is : (b : ℕ) → b < blocks_of w → bit_at v.header.nonempty_summary b ≡ one (not (eqb (v.blocks b).nonempty 0))
  summary-is b l = elim (ℕ_discrete b (g / 64)) [
    | yes e ↦ rw e (summary-own w v g q wrote)
    | no e ↦ summary-other w v g q wrote b e ∙ ok.summary b l ∙ ap (λ (x : Block). one (not (eqb x.nonempty 0))) (sym (wrote.other_blocks b e))
  ]

  -- the marks
  marks-noted : (h : ℕ) → marked v h ≡ 1 → noted v h ≡ 1
  marks-noted h e = elim (ℕ_discrete (h / 64) (g / 64)) [
    | yes z ↦
        ap (λ (b : ℕ). bit_at (v.blocks b).nonempty (h % 64)) z
        ∙ c.marking.marks (h % 64) (omega arith) (ap (λ (b : ℕ). bit_at (v.blocks b).retired (h % 64)) (sym z) ∙ e)
    | no z ↦
        let s = wrote.other_blocks (h / 64) z in
        ap (λ (x : Block). bit_at x.nonempty (h % 64)) s
        ∙ marks-in w ok (h / 64) (h % 64) (omega arith) (ap (λ (x : Block). bit_at x.retired (h % 64)) (sym s) ∙ e)
  ]

  marks-hold : (h : ℕ) → h < pages_of w → marked v h ≡ 1 → holds_value (v.pages h) ≡ true
  marks-hold h l e = one-true (holds_value (v.pages h)) (sym (noted-is h l) ∙ marks-noted h e)

  marks-past : (h : ℕ) → pages_of w ≤ h → marked v h ≡ 0
  marks-past h l = bit-not-one (v.blocks (h / 64)).retired (h % 64) (λ e. omega (arith, noted-past h l, marks-noted h e))

  retired-lt : (b : ℕ) → (v.blocks b).retired < 2 ^ 64
  retired-lt b = elim (ℕ_discrete b (g / 64)) [ yes e ↦ rw e c.marking.marks_fit | no e ↦ rw (wrote.other_blocks b e) (ok.retired_fits b) ]

  -- the pages
  pages-sound : (h : ℕ) → h < pages_of w → SoundPage w.header.n (capacity_of w) h (v.pages h)
  pages-sound = each-page {B = λ (h : ℕ). h < pages_of w → SoundPage w.header.n (capacity_of w) h (v.pages h)}
      (λ l. rw wrote.own_page c.page)
      (λ h d l. rw (wrote.other_pages h d) (ok.page h l))

  abbrev Dense : ℕ → Type 0
  Dense h = is_retired v h ≡ false → (v.pages h).kind ≡ 2 → (w.header.demote_at ≡ 0 → ⊥) → w.header.demote_at < values_in_of (v.pages h)

  dense-is : (h : ℕ) → h < pages_of w → Dense h
  dense-is = each-page {B = λ (h : ℕ). h < pages_of w → Dense h}
      (λ l. rw wrote.own_page c.dense)
      (λ h d l. same-dense w v h ok l (wrote.other_pages h d) (c.marking.status h d))

  -- the counts
  counts-kept : (h : ℕ) → (h ≡ g → ⊥) → (live_in v h ≡ live_in w h) × (retired_in v h ≡ retired_in w h)
  counts-kept h d = same-counts w v h (wrote.other_pages h d) (c.marking.status h d)

  live_own : (v.blocks (g / 64)).live ≡ sum 64 (λ (i : ℕ). live_in v (64 * (g / 64) + i))
  live_own =
      let z : 64 * (g / 64) + g % 64 ≡ g = omega arith in
      let t = sum-but 64 (λ (i : ℕ). live_in v (64 * (g / 64) + i)) (λ (i : ℕ). live_in w (64 * (g / 64) + i)) (g % 64) (omega arith)
      (λ i k d. (counts-kept (64 * (g / 64) + i) (λ y. d (omega arith))).0) in
      omega (arith, t, ap (live_in v) z, ap (live_in w) z, ok.live (g / 64) own_block, c.live)

  live-is : (b : ℕ) → b < blocks_of w → (v.blocks b).live ≡ sum 64 (λ (i : ℕ). live_in v (64 * b + i))
  live-is b l = elim (ℕ_discrete b (g / 64)) [
    | yes e ↦ rw e live_own
    | no e ↦
        ap (λ (x : Block). x.live) (wrote.other_blocks b e) ∙ ok.live b l
        ∙ sum_same 64 (λ (i : ℕ). live_in w (64 * b + i)) (λ (i : ℕ). live_in v (64 * b + i)) (λ i k. sym (counts-kept (64 * b + i) (λ z. e (omega arith))).0)
  ]

  len_is : v.header.len ≡ sum (pages_of w) (live_in v)
  len_is = omega (arith, sum-but (pages_of w) (live_in v) (live_in w) g below (λ h l d. (counts-kept h d).0), ok.len, c.len)

  held-is : v.header.retired_held ≡ sum (pages_of w) (retired_in v)
  held-is = omega (arith, sum-but (pages_of w) (retired_in v) (retired_in w) g below (λ h l d. (counts-kept h d).1), ok.held, c.held)

  -- of v, with the parts of the header that are w's
  changed-sound : Sound (window (header_with w.header v.header.len v.header.retired_held w.header.release_cursor v.header.nonempty_summary v.header.retired_blocks v.header.promotions v.header.single_demotions v.header.range_demotions) v.pages v.blocks)
  changed-sound = record {
    within = ok.within;
    page = pages-sound;
    dense = dense-is;
    nonempty = noted-is;
    summary = summary-is;
    marks = marks-hold;
    live = live-is;
    len = len_is;
    held = held-is;
    cursor = ok.cursor;
    nonempty_bits = noted-past;
    retired_bits = marks-past;
    summary_bits = λ b l. summary-other w v g q wrote b (λ e. omega (arith, own_block)) ∙ ok.summary_bits b l;
    retired_block_bits = λ b l. bit-not-one v.header.retired_blocks b (λ e. omega (arith, c.marking.block_marks b e, ok.retired_block_bits b l));
    no_block_mark = c.marking.no_block_mark;
    no_page_mark = λ z b l. no-marks v (pages_of w) (λ h k. (pages-sound h k).occupied_fits) marks-hold marks-past held-is retired-lt z b;
    nonempty_fits = nonempty-lt;
    retired_fits = retired-lt;
  }

  pub change-sound : Sound v
  change-sound = subst Sound (λ i. window (sym wrote.header i) v.pages v.blocks) changed-sound

pub change-proper : (w v : Window) (g : ℕ) (q : Page) → Proper w → g < pages_of w → Changes w v g q → Proper v
change-proper w v g q ok below c = record {
  sound = change-sound w v g q ok.sound below c;
  past = λ h l. let k = rw c.writes.header at l in c.writes.other_pages h (λ e. omega arith) ∙ ok.past h k;
}

pub alter-sound : (w v : Window) → Alters w v → Sound w → Sound v
alter-sound w v a ok = ⊎_elim (λ e. subst Sound e ok) (λ c. change-sound w v c.0 c.1 ok c.2 c.3) a

pub alter-proper : (w v : Window) → Alters w v → Proper w → Proper v
alter-proper w v a ok = ⊎_elim (λ e. subst Proper e ok) (λ c. change-proper w v c.0 c.1 ok c.2 c.3) a
