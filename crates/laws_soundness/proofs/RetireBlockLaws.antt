-- A block's mark split, marks on pages of a block, and the mark of a whole block. Assumes nothing.
use mathlib.Core.Path.{◌≡◌, refl, sym, ap, ◌∙◌}
use mathlib.Core.Bool.{Bool, true, false, cond, not, ◌&&◌, ◌||◌, true≢false}
use mathlib.Core.Logic.{inl, inr, ⊎_elim}
use Prim.Native.Nat.{ℕ, ◌+◌, ◌-◌, ◌*◌, ◌/◌, ◌%◌, ◌<◌}
use native.Mathlib.Omega.{arith}
use borrow.Author.Tests.{eq-eqb, ne_eqb, eqb-true}
use Rattle.words.proofs.CaseLaws.{bool, both}
use Rattle.words.specs.Word.{bit_at, is_set, set_bit, word_of}
use Rattle.words.proofs.BitLaws.{bit-none}
use Rattle.words.proofs.ChangeLaws.{with-same, with-other}
use Rattle.words.proofs.TestLaws.{word_set}
use Rattle.words.proofs.WordLaws.{word_lt}
use Rattle.model.specs.Table.{sum}
use Rattle.model.specs.Window.{Block, Window, blocks_of, is_retired}
use Rattle.model.specs.Pages.{values_in_of}
use Rattle.model.specs.Steps.{retiring_header, with_header, set_retired_blocks, set_marks, split_block, set_retired, set_live, pages_in, new_marks, retire_live, retire_in_block, retire_block_of}
use Rattle.model.specs.Sound.{live_in, Sound}
use Rattle.laws_soundness.specs.Change.{Proper}
use Rattle.laws_soundness.proofs.SumLaws.{sum_same, sum-add, sum-none}
use Rattle.laws_soundness.proofs.PageLaws.{or-neither, retired-counts, same-counts}
use Rattle.laws_soundness.proofs.SplitLaws.{unnoted-empty, split, own_block, other_block, split-status, split-unmarked, split-header, proper-split}
use Rattle.laws_soundness.specs.Retire.{with_block_marks, Retiring, RetiresIn}
use Rattle.laws_soundness.proofs.RetireLaws.{proper-retiring, retiring-from, retiring-proper}
use Rattle.laws_soundness.proofs.RetireInLaws.{retiring-in}

-- ---- a block's mark split

module _ (w : Window) (b : ℕ) (ok : Retiring w) (below : b < blocks_of w) where
  split-retires : is_set w.header.retired_blocks b ≡ true → RetiresIn w (split w b) b 0
  split-retires mark =
      let own = own_block w b in
      let same = split-status w b mark (unnoted-empty (with_block_marks w ok.marks) ok.proper) in
      record {
        header = λ i. retiring_header w.header (len0 w.header.len i) (held0 w.header.retired_held i) (split w b).header.retired_blocks;
        pages = refl;
        other_blocks = other_block w b;
        nonempty = ap (λ (x : Block). x.nonempty) own;
        live = ap (λ (x : Block). x.live) own ∙ len0 (w.blocks b).live;
        block_marks = λ d e. with-other w.header.retired_blocks b 0 d (omega arith) e;
        status = λ i l r. ⊎_elim (λ z. inl z) (λ s. inr (sym s ∙ r)) (same (64 * b + i));
        marks = λ i l e. ap (λ (x : Block). bit_at x.retired i) (sym own) ∙ e;
        marks_fit = rw own (ok.proper.sound.nonempty_fits b);
        counted = omega (arith, (retiring-from w ok).live b below, sum_same 64 (λ (i : ℕ). live_in w (64 * b + i)) (λ (i : ℕ). live_in (split w b) (64 * b + i)) (λ i l. sym (same-counts w (split w b) (64 * b + i) refl (same (64 * b + i))).0));
      }
    where
      len0 : (x : ℕ) → x ≡ x - 0
      len0 x = omega arith

      held0 : (x : ℕ) → x ≡ x + 0
      held0 x = omega arith

  pub retiring-split : Retiring (split_block w b)
  unfolding split_block
  retiring-split =
      bool (is_set w.header.retired_blocks b)
      (λ e. rw e (retiring-in w (split w b) ok b 0 below (split-retires e)))
      (λ e. rw e ok)

-- ---- marks on pages of a block

-- what stays live of x values, and what is newly retired: n, the page holds a value; p, it is to be marked; s, it is marked
kept-and-moved : (p n s : Bool) (x : ℕ) → cond s 0 x ≡ cond (s || (p && (n && not s))) 0 x + cond (p && (n && not s)) x 0
kept-and-moved p n true x = bool p (λ e. bool n (λ d. rw (e, d)) (λ d. rw (e, d))) (λ e. rw e)
kept-and-moved true true false x = omega arith
kept-and-moved true false false x = omega arith
kept-and-moved false n false x = omega arith

module _ (w : Window) (from to b : ℕ) where
  abbrev word : ℕ
  word = word_of (λ (i : ℕ). is_set (w.blocks b).retired i || new_marks w from to b i)

  abbrev moved : ℕ → ℕ
  moved i = cond (new_marks w from to b i) (values_in_of (w.pages (64 * b + i))) 0

  abbrev pub with_marks : Window
  with_marks = retire_live (set_marks w b word) b (sum 64 moved)

  own : with_marks.blocks b ≡ set_live (set_retired (w.blocks b) word) ((w.blocks b).live - sum 64 moved)
  own = rw (eq-eqb b b refl)

  module _ (ok : Retiring w) (below : b < blocks_of w) (unmarked : is_set w.header.retired_blocks b ≡ false) where
    marks-set : (i : ℕ) → i < 64 → is_set (with_marks.blocks b).retired i ≡ (is_set (w.blocks b).retired i || new_marks w from to b i)
    marks-set i l = ap (λ (x : Block). is_set x.retired i) own ∙ word_set (λ (j : ℕ). is_set (w.blocks b).retired j || new_marks w from to b j) i l

    pub retired-before : (i : ℕ) → i < 64 → is_retired w (64 * b + i) ≡ is_set (w.blocks b).retired i
    retired-before i l =
        let y : (64 * b + i) / 64 ≡ b = omega arith in
        let r : (64 * b + i) % 64 ≡ i = omega arith in
        rw (y, r, unmarked)

    pub retired-after : (i : ℕ) → i < 64 → is_retired with_marks (64 * b + i) ≡ (is_set (w.blocks b).retired i || new_marks w from to b i)
    retired-after i l =
        let y : (64 * b + i) / 64 ≡ b = omega arith in
        let r : (64 * b + i) % 64 ≡ i = omega arith in
        rw (y, r, unmarked) (marks-set i l)

    page-counted : (i : ℕ) → i < 64 → live_in w (64 * b + i) ≡ live_in with_marks (64 * b + i) + moved i
    page-counted i l =
        let x = values_in_of (w.pages (64 * b + i)) in
        ap (λ (t : Bool). cond t 0 x) (retired-before i l)
        ∙ kept-and-moved (pages_in from to b i) (is_set (w.blocks b).nonempty i) (is_set (w.blocks b).retired i) x
        ∙ ap (λ (t : Bool). cond t 0 x + moved i) (sym (retired-after i l))

    marks-noted : (i : ℕ) → i < 64 → bit_at (with_marks.blocks b).retired i ≡ 1 → bit_at (w.blocks b).nonempty i ≡ 1
    marks-noted i l e =
        bool (is_set (w.blocks b).retired i)
        (λ s. (retiring-from w ok).marks b i l (eqb-true (bit_at (w.blocks b).retired i) 1 s))
        (λ s.
        let n : new_marks w from to b i ≡ true = ap (λ (t : Bool). t || new_marks w from to b i) (sym s) ∙ sym (marks-set i l) ∙ eq-eqb (bit_at (with_marks.blocks b).retired i) 1 e in
        eqb-true (bit_at (w.blocks b).nonempty i) 1 (both (is_set (w.blocks b).nonempty i) (not (is_set (w.blocks b).retired i)) (both (pages_in from to b i) _ n).1).0)

    pub marks-retire : RetiresIn w with_marks b (sum 64 moved)
    marks-retire = record {
      header = refl;
      pages = refl;
      other_blocks = λ d e. rw (ne_eqb d b e);
      nonempty = ap (λ (x : Block). x.nonempty) own;
      live = ap (λ (x : Block). x.live) own;
      block_marks = λ d e. refl;
      status = λ i l r. inr (retired-before i l ∙ (or-neither (is_set (w.blocks b).retired i) (new_marks w from to b i) (sym (retired-after i l) ∙ r)).0);
      marks = marks-noted;
      marks_fit = rw own (word_lt (λ (i : ℕ). is_set (w.blocks b).retired i || new_marks w from to b i) 64);
      counted = omega (
        arith,
        (retiring-from w ok).live b below,
        sum_same 64 (λ (i : ℕ). live_in w (64 * b + i)) (λ (i : ℕ). live_in with_marks (64 * b + i) + moved i) page-counted,
        sum-add 64 (λ (i : ℕ). live_in with_marks (64 * b + i)) moved,
      );
    }

module _ (w : Window) (from to b : ℕ) where
  pub retiring-in-block : Retiring w → b < blocks_of w → Retiring (retire_in_block w from to b)
  unfolding retire_in_block
  retiring-in-block ok below =
      let v = split_block w b in
      let l : b < blocks_of v = rw (split-header w b).0 below in
      let s = retiring-split w b ok below in
      retiring-in v (with_marks v from to b) s b (sum 64 (moved v from to b)) l (marks-retire v from to b s l (split-unmarked w b))

  -- marks on pages never stand without a retired value
  pub proper-in-block : Proper w → b < blocks_of w → Proper (retire_in_block w from to b)
  unfolding retire_in_block
  proper-in-block ok below =
      retiring-proper (retire_in_block w from to b) (retiring-in-block (proper-retiring w ok) below)
      (λ z. (proper-split w b ok below).sound.no_block_mark (omega (arith, z)))

-- ---- the mark of a whole block

module _ (w : Window) (b : ℕ) (ok : Retiring w) (below : b < blocks_of w) where
  abbrev k : ℕ
  k = (w.blocks b).live

  abbrev pub marked : Window
  marked = retire_live (with_header w (set_retired_blocks w.header (set_bit w.header.retired_blocks b))) b k

  pub all-retired : (i : ℕ) → i < 64 → is_retired marked (64 * b + i) ≡ true
  all-retired i l = let y : (64 * b + i) / 64 ≡ b = omega arith in rw (y, with-same w.header.retired_blocks b 1 (omega arith))

  marked-block : marked.blocks b ≡ set_live (w.blocks b) (k - k)
  marked-block = rw (eq-eqb b b refl)

  pub block-retires : RetiresIn w marked b k
  block-retires = record {
    header = refl;
    pages = refl;
    other_blocks = λ d e. rw (ne_eqb d b e);
    nonempty = ap (λ (x : Block). x.nonempty) marked-block;
    live = ap (λ (x : Block). x.live) marked-block;
    block_marks = λ d e. with-other w.header.retired_blocks b 1 d (omega arith) e;
    status = λ i l r. absurd (true≢false (sym (all-retired i l) ∙ r));
    marks = λ i l e. (retiring-from w ok).marks b i l (ap (λ (x : Block). bit_at x.retired i) (sym marked-block) ∙ e);
    marks_fit = rw marked-block ((retiring-from w ok).marks_fit b);
    counted = omega (arith, sum-none 64 (λ (i : ℕ). live_in marked (64 * b + i)) (λ i l. (retired-counts marked (64 * b + i) (all-retired i l)).0));
  }

  pub retiring-block : Retiring (retire_block_of w b)
  unfolding retire_block_of
  retiring-block = retiring-in w marked ok b k below block-retires

module _ (w : Window) (b : ℕ) where
  -- if then a value is retired
  pub proper-block : Proper w → b < blocks_of w → (w.header.retired_held + (w.blocks b).live ≡ 0 → ⊥) → Proper (retire_block_of w b)
  unfolding retire_block_of
  proper-block ok below some = retiring-proper (retire_block_of w b) (retiring-block w b (proper-retiring w ok) below) (λ z. absurd (some z))

  -- and only then
  pub block-unsound : w.header.retired_held + (w.blocks b).live ≡ 0 → Sound (retire_block_of w b) → ⊥
  unfolding retire_block_of
  block-unsound none ok =
      omega (arith, with-same w.header.retired_blocks b 1 (omega arith), ap (λ (r : ℕ). bit_at r b) (ok.no_block_mark none), bit-none b)
