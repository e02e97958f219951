-- What the last block looked at gave, and the reads up to it (block-ends). Assumes nothing.
use Rattle.std.proofs.Common.{◌≡◌, ℕ, ◌+◌, ◌-◌, ◌/◌, false, sym, ap, ◌∙◌, subst, ⊎_elim, true≢false, arith}
use Rattle.std.specs.Prelude.{unwrap_or, is_some}
use Rattle.block_search.specs.declared.Select.TheVariants.{Live}
use Rattle.block_search.specs.Search.{selected_pages_of}
use Rattle.call_read.specs.declared.cells.Entered.{Entered}
use Rattle.call_read.specs.Promises.{entered_at, cell_in_block_of, FindsCell}
use Rattle.call_read.proofs.CellLaws.{none-begins, block-ends}
use Rattle.call_read.proofs.cells.walk_blocks.Goals as goal
use Rattle.call_read.proofs.cells.walk_blocks.Goals.{After-cell_in_block-cell}

-- by hand, so that a walk in another unit is refused here, where it begins outside the blocks, and not by the words of what follows
pub walk-init : goal.walk-init
walk-init c =
    let b : c.args.start / 4096 ≡ c.args.start / 64 / 64 = omega arith in
    let none : 0 ≡ c.args.start / 64 / 64 - c.args.start / 4096 = omega arith in (
      omega arith,
      omega (arith, c.requires.window_size_bound.1),
      c.requires.own_value ∙ (λ i. entered_at c.args.blocks.now c.args.w.retired_blocks (b i) (none i)),
      none-begins c.args.w _ _ _ _ c.requires.window_size_bound.1 c.requires.window_size_bound.2 _ (omega arith),
    )

reads-are : (c : After-cell_in_block-cell) → c.walk.entered.reads ≡ c.walk.block - c.args.start / 4096 + 1
reads-are c = ap (λ (x : Entered). x.reads) c.walk.invariant.2

cell-is : (c : After-cell_in_block-cell) →
    let s = c.args in
    unwrap_or c.cell_in_block-cell.result s.end ≡ cell_in_block_of s.pages.now (selected_pages_of s.blocks.now s.w.retired_blocks c.walk.block Live) c.walk.block s.start s.end
cell-is c =
    let s = c.args in
    c.cell_in_block-cell.ensures.first ∙ ap (λ (x : Entered). cell_in_block_of s.pages.now x.live c.walk.block s.start s.end) c.walk.invariant.2

pub returns : goal.returns
returns c =
    let s = c.args in
    let here = (goal.at.returns c).After-cell_in_block-cell in
    let last : is_some c.cell_in_block-cell.result ≡ false → (s.end - 1) / 4096 ≡ c.walk.block =
    λ n. ⊎_elim (λ t. absurd (true≢false (sym t ∙ c.is_some.ensures ∙ n))) (λ w. omega (arith, w.1, c.walk.invariant.1)) c.then-is_some.either in
    subst (λ (k : ℕ). FindsCell s.w s.pages.now s.blocks.now s.start s.end (record { cell = c.cell_in_block-cell.result; reads = k })) (sym (reads-are here))
    (block-ends s.w _ _ _ _ c.requires.window_size_bound.1 c.requires.window_size_bound.2 _ c.walk.invariant.3 _ c.cell_in_block-cell.ensures.within (cell-is here) last)
