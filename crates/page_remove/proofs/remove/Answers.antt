-- By whether the sequence is found: without it the page is as it was, with it the page settles without its cell. Assumes nothing.
use Rattle.std.proofs.Common.{ℕ, ◌%◌, ◌≡◌, ◌∙◌, sym, ap}
use native.Mathlib.Nat.{le_refl}
use Rattle.page_base.specs.declared.PageWords.{PageWords}
use Rattle.page_base.specs.Page.{cells, page}
use Rattle.page_base.proofs.PartLaws.{cell_in}
use Rattle.page_base.proofs.ReadLaws.{with_cell}
use Rattle.page_remove.specs.Remove.{settle_page_of}
use Rattle.page_remove.proofs.SettleLaws.{page-taken, remove-found, remove_absent}
use Rattle.page_remove.proofs.remove.Goals as goal

pub returns-in_default : goal.returns-in_default
returns-in_default c =
    record { gives = λ ok. remove_absent _ _ _ _ _ (c.in_default.ensures.cell _ ok) (le_refl 64) c.count.ensures }

pub returns : goal.returns
returns c =
    let s = c.args in
    let p = page s.w s.sequences.now s.values.now in
    let cell = c.in-Some.c in
    let l = c.in-Some.ensures.bounded in
    record {
      gives = λ ok.
          let e = c.in-Some.ensures.cell _ ok in
          let q : cells s.sequences.now cell % 64 ≡ s.sequence % 64 = ap (λ (x : ℕ). x % 64) (with_cell p s.sequence _ e l).1 in
          remove-found s.demote_at p s.sequence _ _ _ e l (sym (cell_in s.values.now _ l))
          (c.settle-s.ensures ∙ ap (λ (x : PageWords). settle_page_of s.demote_at (page x s.sequences.now s.values.now)) c.take_cell-taken.ensures
          ∙ ap (settle_page_of s.demote_at) (page-taken s.w _ _ _ _ q));
    }
