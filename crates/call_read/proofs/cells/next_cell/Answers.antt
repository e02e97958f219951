-- The cell that the page of the start gives, or what the walk gives (own-cell). Assumes nothing.
use Rattle.std.proofs.Common.{◌≡◌, ℕ, ◌+◌, ◌*◌, ◌/◌, ◌%◌, List, sym, ap, ◌∙◌, subst, arith}
use Rattle.std.specs.Prelude.{Some}
use Rattle.call_read.specs.declared.cells.Entered.{Entered}
use Rattle.call_read.specs.Promises.{entered_at, cell_in_page_of, FindsCell}
use Rattle.call_read.proofs.CellLaws.{own-cell}
use Rattle.call_read.proofs.cells.next_cell.Goals as goal

-- the block of the start, by its page
own-is : (blocks : List ℕ) (retired_blocks start : ℕ) (own : Entered) → own ≡ entered_at blocks retired_blocks (start / 64 / 64) 0 → own ≡ entered_at blocks retired_blocks (start / 4096) 0
own-is blocks retired_blocks start own e =
    let b : start / 64 / 64 ≡ start / 4096 = omega arith in
    e ∙ ap (λ (x : ℕ). entered_at blocks retired_blocks x 0) b

pub returns-in-Some : goal.returns-in-Some
returns-in-Some c =
    let s = c.args in
    let e = own-is _ _ _ _ c.enter_block-own.ensures in
    subst (λ (x : ℕ). FindsCell s.w s.pages.now s.blocks.now s.start s.end (record { cell = Some (64 * (s.start / 64) + c.in-Some.c); reads = x }))
    (sym (ap (λ (x : Entered). x.reads) e))
    (own-cell s.w _ _ _ _ c.requires.window_size_bound.1 c.requires.window_size_bound.2 _
    (c.in-Some.ensures.first ∙ ap (λ (x : Entered). cell_in_page_of s.pages.now x.live (s.start / 64) (s.start % 64)) e) c.in-Some.ensures.within)
