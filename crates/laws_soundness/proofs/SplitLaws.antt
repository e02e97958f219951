-- A block's mark turned into marks on its nonempty pages keeps a window sound. Assumes nothing.
use mathlib.Core.Path.{◌≡◌, refl, sym, ap, subst, ◌∙◌}
use mathlib.Core.Bool.{true, false, true≢false, ◌||◌}
use mathlib.Core.Logic.{inl, inr}
use Prim.Native.Nat.{ℕ, ◌*◌, ◌/◌, ◌%◌, ◌<◌}
use native.Mathlib.Omega.{arith}
use native.Mathlib.Decide.{ℕ_discrete, dec_lt}
use lib.Dec.{eqb}
use borrow.Author.Tests.{eq-eqb, ne_eqb}
use Rattle.words.proofs.CaseLaws.{bool}
use Rattle.words.specs.Word.{bit_at, is_set, clear_bit}
use Rattle.words.proofs.BitLaws.{bit-none}
use Rattle.words.proofs.ChangeLaws.{with-same, with-other}
use Rattle.model.specs.Demand3.{one}
use Rattle.model.specs.Window.{Page, Block, Window, pages_of, blocks_of}
use Rattle.model.specs.Steps.{set_retired, with_header, set_retired_blocks, set_marks, split_block}
use Rattle.page_remove.proofs.StandLaws.{clear-fewer}
use Rattle.laws_soundness.specs.Change.{Proper, noted, SameStatus, Writes, Marking, Changes, Alters}
use Rattle.laws_soundness.proofs.PageLaws.{holds-some, marked-retired, same-counts, same-dense}
use Rattle.laws_soundness.proofs.ChangeLaws.{alter-proper}
use Rattle.laws_soundness.proofs.PutLaws.{noted-again, summary-again}

-- a page that is not noted is empty
pub unnoted-empty : (w : Window) → Proper w → (h : ℕ) → (noted w h ≡ 1 → ⊥) → (w.pages h).occupied ≡ 0
unnoted-empty w ok h d =
    elim (dec_lt h (pages_of w)) [
      | yes l ↦
          elim (ℕ_discrete (w.pages h).occupied 0) [
            | yes z ↦ z
            | no z ↦ absurd (d (ok.sound.nonempty h l ∙ ap one (holds-some (w.pages h) z)))
          ]
      | no l ↦ ap (λ (p : Page). p.occupied) (ok.past h (omega arith))
    ]

-- the mark of block b turned into marks on its nonempty pages
module _ (w : Window) (b : ℕ) where
  abbrev pub split : Window
  split = set_marks (with_header w (set_retired_blocks w.header (clear_bit w.header.retired_blocks b))) b (w.blocks b).nonempty

  pub own_block : split.blocks b ≡ set_retired (w.blocks b) (w.blocks b).nonempty
  own_block = rw (eq-eqb b b refl)

  pub other_block : (d : ℕ) → (d ≡ b → ⊥) → split.blocks d ≡ w.blocks d
  other_block d e = rw (ne_eqb d b e)

  pub split-status : is_set w.header.retired_blocks b ≡ true → ((h : ℕ) → (noted w h ≡ 1 → ⊥) → (w.pages h).occupied ≡ 0) → (h : ℕ) → SameStatus w split h
  split-status mark empty h = elim (ℕ_discrete (h / 64) b) [
    | yes e ↦
        elim (ℕ_discrete (noted w h) 1) [
          | yes m ↦ inr (marked-retired split h (ap (λ (d : ℕ). bit_at (split.blocks d).retired (h % 64)) e ∙ ap (λ (x : Block). bit_at x.retired (h % 64)) own_block ∙ ap (λ (d : ℕ). bit_at (w.blocks d).nonempty (h % 64)) (sym e) ∙ m) ∙ sym (rw (e, mark)))
          | no m ↦ inl (empty h m)
        ]
    | no e ↦ inr (λ i. eqb (with-other w.header.retired_blocks b 0 (h / 64) (omega arith) e i) 1 || is_set (other_block (h / 64) e i).retired (h % 64))
  ]

-- the block of page g, which has a mark
module _ (w : Window) (g : ℕ) (ok : Proper w) (below : g < pages_of w) (mark : is_set w.header.retired_blocks (g / 64) ≡ true) where
  abbrev v : Window
  v = split w (g / 64)

  own : v.blocks (g / 64) ≡ set_retired (w.blocks (g / 64)) (w.blocks (g / 64)).nonempty
  own = own_block w (g / 64)

  same-status : (h : ℕ) → SameStatus w v h
  same-status = split-status w (g / 64) mark (unnoted-empty w ok)

  split-writes : Writes w v g (w.pages g)
  split-writes = record {
    header = refl;
    own_page = refl;
    other_pages = λ h d. refl;
    other_blocks = other_block w (g / 64);
    nonempty = ap (λ (x : Block). x.nonempty) own ∙ sym (noted-again w g ok.sound below);
    summary = rw (eq-eqb (g / 64) (g / 64) refl) (sym (summary-again w g ok.sound below));
  }

  split-marking : Marking w v g
  split-marking = record {
    status = λ h d. same-status h;
    marks = λ i l e. ap (λ (x : Block). bit_at x.nonempty i) own ∙ ap (λ (x : Block). bit_at x.retired i) (sym own) ∙ e;
    marks_fit = rw own (ok.sound.nonempty_fits (g / 64));
    block_marks = clear-fewer w.header.retired_blocks (g / 64);
    no_block_mark = λ z. absurd (true≢false (sym mark ∙ rw (ok.sound.no_block_mark z, bit-none (g / 64))));
  }

  split-changes : Changes w v g (w.pages g)
  split-changes =
      let same = same-counts w v g refl (same-status g) in
      record {
        writes = split-writes;
        marking = split-marking;
        page = ok.sound.page g below;
        dense = same-dense w v g ok.sound below refl (same-status g);
        live = omega (arith, same.0, ap (λ (x : Block). x.live) own);
        len = omega (arith, same.0);
        held = omega (arith, same.1);
      }

module _ (w : Window) (b : ℕ) where
  pub split-pages : (split_block w b).pages ≡ w.pages
  unfolding split_block
  split-pages = bool (is_set w.header.retired_blocks b) (λ e. rw e) (λ e. rw e)

  -- the block has no mark then
  pub split-unmarked : is_set (split_block w b).header.retired_blocks b ≡ false
  unfolding split_block
  split-unmarked = bool (is_set w.header.retired_blocks b) (λ e. rw (e, with-same w.header.retired_blocks b 0 (omega arith))) (λ e. rw (e, e))

  pub split-header : ((split_block w b).header.window_size ≡ w.header.window_size) × ((split_block w b).header.n ≡ w.header.n)
  unfolding split_block
  split-header = bool (is_set w.header.retired_blocks b) (λ e. (rw e, rw e)) (λ e. (rw e, rw e))

pub split-same : (w : Window) (g : ℕ) → Proper w → g < pages_of w → (h : ℕ) → SameStatus w (split_block w (g / 64)) h
unfolding split_block
split-same w g ok l h =
    bool (is_set w.header.retired_blocks (g / 64))
    (λ e. rw e (same-status w g ok l e h))
    (λ e. rw e (inr refl))

pub split-alters : (w : Window) (g : ℕ) → Proper w → g < pages_of w → Alters w (split_block w (g / 64))
unfolding split_block
split-alters w g ok l =
    bool (is_set w.header.retired_blocks (g / 64))
    (λ e. rw e (inr (g, w.pages g, l, split-changes w g ok l e)))
    (λ e. rw e (inl refl))

pub proper-split : (w : Window) (b : ℕ) → Proper w → b < blocks_of w → Proper (split_block w b)
proper-split w b ok l =
    let e : 64 * b / 64 ≡ b = omega arith in
    subst (λ (x : ℕ). Proper (split_block w x)) e (alter-proper w (split_block w (64 * b / 64)) (split-alters w (64 * b) ok (omega arith)) ok)
