use Rattle.std.proofs.Common.{arith, rules}
use Rattle.page_check.proofs.DecideLaws.{decides-no}
use Rattle.page_check.proofs.CellLoopLaws.{next_of, rest-less, passed-begins, not_sound, passed-turn, passed-ends}
use Rattle.page_check.proofs.cells_sound.Goals as goal

pub loop-rest-init : goal.loop-rest-init
loop-rest-init c = passed-begins _ _ _ _ _ (omega arith)

pub offset_bounds-sequences-c : goal.offset_bounds-sequences-c
offset_bounds-sequences-c c =
    let at = next_of c.args.sequences.now _ _ c.loop-rest.invariant.fits c.loop-rest-test.true c.lowest-c.ensures in
    omega (arith, at.inside)

pub bounds-sequences-c : goal.bounds-sequences-c
bounds-sequences-c c =
    let at = next_of c.args.sequences.now _ _ c.loop-rest.invariant.fits c.loop-rest-test.true c.lowest-c.ensures in
    omega (arith, at.inside)

pub returns-then-not-cell_sound : goal.returns-then-not-cell_sound
returns-then-not-cell_sound c =
    let at = next_of c.args.sequences.now _ _ c.loop-rest.invariant.fits c.loop-rest-test.true c.lowest-c.ensures in
    decides-no (not_sound _ _ _ _ _ _ _ c.loop-rest.invariant _ _ at (c.cell_sound.ensures.fails c.if-not-cell_sound.true))

pub clear-rest-requires : goal.clear-rest-requires
clear-rest-requires c =
    let at = next_of c.args.sequences.now _ _ c.loop-rest.invariant.fits c.loop-rest-test.true c.lowest-c.ensures in
    at.inside

pub loop-rest-smaller : goal.loop-rest-smaller
loop-rest-smaller c =
    let at = next_of c.args.sequences.now _ _ c.loop-rest.invariant.fits c.loop-rest-test.true c.lowest-c.ensures in
    rw c.clear-rest.ensures (rest-less _ _ _ _ at)

pub loop-rest-preserved : goal.loop-rest-preserved
loop-rest-preserved c =
    let at = next_of c.args.sequences.now _ _ c.loop-rest.invariant.fits c.loop-rest-test.true c.lowest-c.ensures in
    rw (c.clear-rest.ensures, c.set-named.ensures)
    (passed-turn _ _ _ _ _ _ _ c.loop-rest.invariant _ _ at (c.cell_sound.ensures.holds c.if-not-cell_sound.false) (search rules))

pub returns : goal.returns
returns c = passed-ends _ _ _ _ _ _ _ c.loop-rest.invariant c.loop-rest-test.false (omega arith)
