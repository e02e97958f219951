-- Four counts, each after a tab, one after another (put_then); the last is the sum of two. Assumes nothing.
use Rattle.std.proofs.Common.{arith}
use Rattle.line_text.proofs.PrintLaws.{put_then, marked-end}
use Rattle.line_output.proofs.LineLaws.{put_count, counts-are}
use Rattle.line_output.proofs.put_counts.Goals as goal

pub put_marked-second-requires : goal.put_marked-second-requires
put_marked-second-requires c =
    omega (arith, c.requires, marked-end _ _ _ _ _ _ c.put_marked-first.ensures, c.put_marked-first.auto.out)

pub put_marked-third-requires : goal.put_marked-third-requires
put_marked-third-requires c =
    omega (arith, c.requires, marked-end _ _ _ _ _ _ c.put_marked-first.ensures, c.put_marked-first.auto.out, marked-end _ _ _ _ _ _ c.put_marked-second.ensures, c.put_marked-second.auto.out)

pub put_marked-requires : goal.put_marked-requires
put_marked-requires c =
    omega (arith, c.requires, marked-end _ _ _ _ _ _ c.put_marked-first.ensures, c.put_marked-first.auto.out, marked-end _ _ _ _ _ _ c.put_marked-second.ensures, c.put_marked-second.auto.out, marked-end _ _ _ _ _ _ c.put_marked-third.ensures, c.put_marked-third.auto.out)

pub returns : goal.returns
returns c =
    rw (counts-are c.args.w)
    (put_then _ _ _ _ _ _ _ _ (put_count _ _ _ _ _ _ c.from.ensures c.put_marked-first.ensures)
    (put_then _ _ _ _ _ _ _ _ (put_count _ _ _ _ _ _ c.from-2.ensures c.put_marked-second.ensures)
    (put_then _ _ _ _ _ _ _ _ c.put_marked-third.ensures (put_count _ _ _ _ _ _ c.demotions.ensures c.put_marked.ensures))))
