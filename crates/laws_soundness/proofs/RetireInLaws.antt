-- Values of one block retired, in a window while values are retired. Assumes nothing.
use mathlib.Core.Path.{◌≡◌, sym, ap, subst, ◌∙◌}
use mathlib.Core.Bool.{◌||◌}
use mathlib.Core.Logic.{inr}
use Prim.Native.Nat.{ℕ, ◌+◌, ◌-◌, ◌*◌, ◌/◌, ◌%◌, ◌≤◌, ◌<◌}
use native.Mathlib.Omega.{arith}
use native.Mathlib.Decide.{ℕ_discrete}
use lib.Dec.{eqb}
use Rattle.words.specs.Word.{is_set}
use Rattle.window.specs.declared.AdaptiveReceiverPacketWindow.{AdaptiveReceiverPacketWindow}
use Rattle.model.specs.Table.{sum}
use Rattle.model.specs.Window.{Page, Block, Window, pages_of, blocks_of, is_retired}
use Rattle.model.specs.Steps.{retiring_header}
use Rattle.model.specs.Sound.{live_in}
use Rattle.laws_soundness.proofs.SumLaws.{sum_same, sum_past, sum-block}
use Rattle.laws_soundness.proofs.PageLaws.{empty-counts, same-counts}
use Rattle.laws_soundness.specs.Retire.{with_block_marks, Retiring, NotRevived, Retires, RetiresIn}
use Rattle.laws_soundness.proofs.RetireLaws.{same_total, retiring-from, retiring-then}

module _ (w v : Window) (ok : Retiring w) (b k : ℕ) (below : b < blocks_of w) (c : RetiresIn w v b k) where
  from : Retires (with_block_marks w ok.marks) w
  from = retiring-from w ok

  pub other-status : (h : ℕ) → (h / 64 ≡ b → ⊥) → is_retired v h ≡ is_retired w h
  other-status h e = λ i. eqb (c.block_marks (h / 64) e i) 1 || is_set (c.other_blocks (h / 64) e i).retired (h % 64)

  same-page : (h : ℕ) → v.pages h ≡ w.pages h
  same-page h = ap (λ (f : ℕ → Page). f h) c.pages

  other-live : (h : ℕ) → (h / 64 ≡ b → ⊥) → live_in v h ≡ live_in w h
  other-live h e = (same-counts w v h (same-page h) (inr (other-status h e))).0

  past-empty : (h : ℕ) → pages_of w ≤ h → (w.pages h).occupied ≡ 0
  past-empty h l = ap (λ (p : Page). p.occupied) (ok.proper.past h l)

  len_is : w.header.len ≡ sum (pages_of w) (live_in v) + k
  len_is = omega (
    arith,
    sum-block (blocks_of w) (live_in v) (live_in w) b below other-live,
    sum_past (pages_of w) (64 * blocks_of w) (live_in w) (omega arith) (λ h l. (empty-counts w h (past-empty h l)).0),
    sum_past (pages_of w) (64 * blocks_of w) (live_in v) (omega arith) (λ h l. (empty-counts v h (ap (λ (p : Page). p.occupied) (same-page h) ∙ past-empty h l)).0),
    from.len,
    from.live b below,
    c.counted,
  )

  len_of : v.header.len ≡ w.header.len - k
  len_of = ap (λ (h : AdaptiveReceiverPacketWindow). h.len) c.header

  held_of : v.header.retired_held ≡ w.header.retired_held + k
  held_of = ap (λ (h : AdaptiveReceiverPacketWindow). h.retired_held) c.header

  status-is : (h : ℕ) → NotRevived w v h
  status-is h = elim (ℕ_discrete (h / 64) b) [
    | yes e ↦ let z : 64 * b + h % 64 ≡ h = omega arith in subst (NotRevived w v) z (c.status (h % 64) (omega arith))
    | no e ↦ λ r. inr (sym (other-status h e) ∙ r)
  ]

  in-retires : Retires w v
  in-retires = record {
    header = c.header ∙ (λ i. retiring_header w.header (sym len_of i) (sym held_of i) v.header.retired_blocks);
    pages = c.pages;
    nonempty = λ d. elim (ℕ_discrete d b) [ yes e ↦ rw e c.nonempty | no e ↦ ap (λ (x : Block). x.nonempty) (c.other_blocks d e) ];
    status = status-is;
    marks = λ d i l. elim (ℕ_discrete d b) [ yes e ↦ rw e (c.marks i l) | no e ↦ rw (c.other_blocks d e) (from.marks d i l) ];
    marks_fit = λ d. elim (ℕ_discrete d b) [ yes e ↦ rw e c.marks_fit | no e ↦ rw (c.other_blocks d e) (from.marks_fit d) ];
    block_bits = λ d l. c.block_marks d (λ e. omega arith) ∙ ok.block_bits d l;
    live = λ d l. elim (ℕ_discrete d b) [
      | yes e ↦ rw e (omega (arith, c.live, c.counted))
      | no e ↦
          ap (λ (x : Block). x.live) (c.other_blocks d e) ∙ from.live d l
          ∙ sum_same 64 (λ (i : ℕ). live_in w (64 * d + i)) (λ (i : ℕ). live_in v (64 * d + i)) (λ i m. sym (other-live (64 * d + i) (λ z. e (omega arith))))
    ];
    len = omega (arith, len_of, len_is);
    held = omega (arith, held_of, len_is, same_total w v c.pages (pages_of w), from.len, from.held);
  }

  pub retiring-in : Retiring v
  retiring-in = retiring-then w v ok in-retires
