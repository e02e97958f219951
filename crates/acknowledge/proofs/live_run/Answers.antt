-- A page that is not reachable has no live sequence (run-unreachable); else the run over the page is that of the window (run-reached).
-- Assumes nothing.
use Rattle.std.proofs.Common.{ℕ, ◌/◌, length, sym, refl, ap, ◌∙◌, subst, arith}
use Rattle.page_base.proofs.PartLaws.{part_length}
use Rattle.call_base.proofs.FitLaws.{PageBounds, sequence-bounds}
use Rattle.acknowledge.specs.Promises.{ListsLent}
use Rattle.acknowledge.proofs.StepLaws.{run-unreachable, run-reached}
use Rattle.acknowledge.proofs.live_run.Goals as goal

pub reachable-requires : goal.reachable-requires
reachable-requires c =
    let page : PageBounds c.args.w.window_size (c.position-page.result / 64) = subst (λ (q : ℕ). PageBounds c.args.w.window_size (q / 64)) (sym c.position-page.ensures) (sequence-bounds c.args.w.window_size c.args.sequence) in
    let fit : ListsLent c.args.w c.args.sequences.now c.args.pages.now c.args.blocks.now = c.requires in
    ((page).page-fits, omega (arith, (page).block_words, (fit).blocks_long))

pub returns-then-not-reachable : goal.returns-then-not-reachable
returns-then-not-reachable c =
    let s = c.args in
    let r = c.reachable in
    run-unreachable s.w s.sequences.now s.pages.now s.blocks.now s.sequence c.position-page.result r.result c.position-page.ensures r.ensures c.if-not-reachable.true _ refl

pub page_words-words-requires : goal.page_words-words-requires
page_words-words-requires c =
    let page : PageBounds c.args.w.window_size (c.position-page.result / 64) = subst (λ (q : ℕ). PageBounds c.args.w.window_size (q / 64)) (sym c.position-page.ensures) (sequence-bounds c.args.w.window_size c.args.sequence) in
    let fit : ListsLent c.args.w c.args.sequences.now c.args.pages.now c.args.blocks.now = c.requires in
    ((page).page-fits, omega (arith, (page).words, (fit).pages_long))

pub page_cells-cells-requires : goal.page_cells-cells-requires
page_cells-cells-requires c =
    let page : PageBounds c.args.w.window_size (c.position-page.result / 64) = subst (λ (q : ℕ). PageBounds c.args.w.window_size (q / 64)) (sym c.position-page.ensures) (sequence-bounds c.args.w.window_size c.args.sequence) in
    let fit : ListsLent c.args.w c.args.sequences.now c.args.pages.now c.args.blocks.now = c.requires in
    omega (arith, (page).cells, (fit).sequences_long)

pub page_run-requires : goal.page_run-requires
page_run-requires c =
    let fit : ListsLent c.args.w c.args.sequences.now c.args.pages.now c.args.blocks.now = c.requires in
    let page : PageBounds c.args.w.window_size (c.position-page.result / 64) = subst (λ (q : ℕ). PageBounds c.args.w.window_size (q / 64)) (sym c.position-page.ensures) (sequence-bounds c.args.w.window_size c.args.sequence) in
    let f = fit in (
      ap length c.page_cells-cells.ensures ∙ part_length _ c.args.sequences.now (omega (arith, (page).cells, f.sequences_long)),
      omega (arith, f.within.n_high),
      omega arith,
    )

pub returns : goal.returns
returns c =
    let s = c.args in
    let r = c.reachable in
    run-reached s.w s.sequences.now s.pages.now s.blocks.now s.sequence c.position-page.result r.result c.position-page.ensures r.ensures c.if-not-reachable.false _ _ _
    c.page_words-words.ensures c.page_cells-cells.ensures c.page_run.ensures
