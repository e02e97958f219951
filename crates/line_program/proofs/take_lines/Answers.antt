use Rattle.std.proofs.Common.{arith}
use Rattle.line_program.proofs.InputLaws.{taken_none, taken_more, stops_end, stops-full}
use Rattle.line_program.proofs.take_lines.Goals as goal

pub loop-program-init : goal.loop-program-init
loop-program-init c =
    taken_none _ _ _ _ _ c.requires.kept_in c.requires.from_in_bounds

pub take_line-program-requires : goal.take_line-program-requires
take_line-program-requires c =
    let i = c.loop-program.invariant in
    record { kept_in = i.kept; at_bound = omega (arith, c.if-program-gt65536.false); from_in_bounds = c.loop-program-test.true }

pub loop-program-smaller : goal.loop-program-smaller
loop-program-smaller c =
    omega (arith, c.take_line-program.ensures.from_lt_from.0, c.take_line-program.ensures.from_lt_from.1)

pub loop-program-preserved : goal.loop-program-preserved
loop-program-preserved c =
    let t = c.take_line-program.ensures in
    taken_more _ _ _ _ _ _ _ _ _ c.loop-program.invariant _ _ _ _ t.from_lt_from t.takes_by t.kept

pub returns-after-loop-program : goal.returns-after-loop-program
returns-after-loop-program c =
    let i = c.loop-program.invariant in
    record { takes_by = i.takes; stops = stops_end _ _ _ _ _ _ _ _ _ i (omega (arith, c.loop-program-test.false)); kept = i.kept }

pub returns-then-program-gt65536 : goal.returns-then-program-gt65536
returns-then-program-gt65536 c =
    let i = c.loop-program.invariant in
    record { takes_by = i.takes; stops = stops-full _ _ _ _ _ _ _ _ _ i c.if-program-gt65536.true; kept = i.kept }
