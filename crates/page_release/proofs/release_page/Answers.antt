use Rattle.std.proofs.Common.{List, ℕ, length, ap, ◌∙◌, arith}
use Rattle.page_base.proofs.PartLaws.{part_length}
use Rattle.page_release.proofs.ReleaseLaws.{release-gives}
use Rattle.page_release.proofs.release_page.Goals as goal

pub drain-d-requires : goal.drain-d-requires
drain-d-requires c = (
  ap (λ (l : List ℕ). length l) c.page_cells.ensures ∙ part_length _ _ c.requires.page_bound.1,
  ap (λ (l : List ℕ). length l) c.page_cells-2.ensures ∙ part_length _ _ c.requires.page_bound.2,
  c.requires.row_in.1,
  c.requires.row_in.3,
)

pub overflow_cast-d : goal.overflow_cast-d
overflow_cast-d c = omega (arith, c.drain-d.ensures.few, c.requires.row_in.2)

pub store_released-window-requires : goal.store_released-window-requires
store_released-window-requires c = (c.requires.page_bound.0, c.requires.page_bound.3, c.requires.row_in.0)

pub returns : goal.returns
returns c =
    let a = c.args in
    release-gives a.w a.n a.sequences.now a.values.now a.pages.now a.blocks.now a.returned.now a.page a.at a.limit _ _ _ _ _
    c.requires.page_bound.1 c.requires.page_bound.2 c.requires.page_bound.3 c.requires.row_in.3 _ _ _ _
    c.page_words-words.ensures c.page_cells.ensures c.page_cells-2.ensures c.unless_emptied-left.ensures
    c.drain-d.ensures c.store_released-window.ensures
