-- Three returns: no page for the cursor, a page from it upwards, and what the search below it gives. Assumes nothing.
use native.Mathlib.Omega.{arith}
use Rattle.window.proofs.MemoryLaws.{page-count-le}
use Rattle.release_visit.proofs.NextRetiredLaws.{finds_past, finds-up, finds-low}
use Rattle.release_visit.proofs.next_retired.Goals as goal

pub returns-then-end-cursor : goal.returns-then-end-cursor
returns-then-end-cursor c = let a = c.args in finds_past a.w a.blocks.now a.end c.requires.0 c.if-end-cursor.true

pub next_page-requires : goal.next_page-requires
next_page-requires c = (omega arith, omega (arith, c.requires.0, page-count-le c.args.w.window_size), omega (arith, c.requires.0, c.requires.1))

pub returns-in-Some : goal.returns-in-Some
returns-in-Some c = finds-up c.args.w c.args.blocks.now c.args.end c.requires.0 (omega (arith, c.if-end-cursor.false)) _ c.in-Some.ensures.first c.in-Some.ensures.in_range

pub next_page-requires-2 : goal.next_page-requires-2
next_page-requires-2 c = (omega arith, omega (arith, c.requires.0, page-count-le c.args.w.window_size, c.if-end-cursor.false), omega (arith, c.requires.0, c.requires.1, c.if-end-cursor.false))

pub returns : goal.returns
returns c =
    finds-low c.args.w c.args.blocks.now c.args.end c.requires.0 (omega (arith, c.if-end-cursor.false)) c.in_default.ensures.first _ c.next_page-2.ensures.first c.next_page-2.ensures.in_range
