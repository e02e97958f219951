use Rattle.std.proofs.Common.{arith}
use Rattle.line_output.proofs.LineLaws.{answer-end}
use Rattle.line_output.proofs.put_head.Goals as goal

pub put_counts-requires : goal.put_counts-requires
put_counts-requires c =
    let a = c.put_answer-counts in
    let t = c.put_byte-from in
    let l = c.put_byte-tab in
    omega (arith, c.requires, answer-end _ _ _ _ _ a.ensures, a.auto.out, t.ensures.end, t.auto.out, l.ensures.end, l.auto.out)
