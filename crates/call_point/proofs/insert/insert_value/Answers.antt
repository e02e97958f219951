-- The page is made live, and the value goes into it. Assumes nothing.
use native.Mathlib.Omega.{arith}
use lib.Dec.{leb}
use lib.ListN.{length}
use borrow.Author.Rules.{rules}
use Rattle.window.specs.Memory.{memory}
use Rattle.call_point.proofs.ReachLaws.{in-lists}
use Rattle.call_point.proofs.EnterLaws.{few-made, entered-admitted}
use Rattle.call_point.proofs.insert.insert_value.Goals as goal

pub reachable-reach-requires : goal.reachable-reach-requires
reachable-reach-requires c =
    let i = in-lists c.args.w _ _ _ _ c.args.sequence c.position-page.result c.requires.0 c.position-page.ensures in
    (i.page-fits, i.in_blocks)

pub made_live-live-requires : goal.made_live-live-requires
made_live-live-requires c =
    let i = in-lists c.args.w _ _ _ _ c.args.sequence c.position-page.result c.requires.0 c.position-page.ensures in
    record { page_bound = (i.page-fits, i.in-sequences, i.in-values, i.in-pages); row_in = (i.in_blocks, i.cells.1, search rules) }

pub enter-requires : goal.enter-requires
enter-requires c =
    let i = in-lists c.args.w _ _ _ _ c.args.sequence c.position-page.result c.requires.0 c.position-page.ensures in
    let k = c.made_live-live.auto in
    record {
      page_bound = (i.page-fits, i.in-sequences, i.in-values, omega (arith, i.in-pages, k.pages));
      row_in = (omega (arith, i.in_blocks, k.blocks), i.cells.0, i.cells.1, few-made _ _ _ _ _ _ _ _ _ c.made_live-live.ensures);
    }

pub returns : goal.returns
returns c =
    entered-admitted c.args.w (memory c.args.sequences.now c.args.values.now c.args.pages.now c.args.blocks.now) c.requires.0 c.args.sequence c.position-page.result
    c.reachable-reach.result c.position-page.ensures c.reachable-reach.ensures c.args.value (leb 384 (length c.args.returned.now)) c.args.returned.now c.requires.1
    c.made_live-live.result _ _ _ c.made_live-live.ensures c.enter.result _ c.enter.ensures
