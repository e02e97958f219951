use Rattle.std.proofs.Common.{arith}
use Rattle.line_text.proofs.PrintLaws.{put_then, number-end}
use Rattle.line_output.specs.Output.{answer_bytes}
use Rattle.line_output.proofs.put_released.Goals as goal

pub put_marked-requires : goal.put_marked-requires
put_marked-requires c =
    let n = c.put_number-colon in
    omega (arith, c.requires, number-end _ _ _ _ _ n.ensures, n.auto.out)

pub returns : goal.returns
unfolding answer_bytes
returns c = put_then _ _ _ _ _ _ _ _ (rw c.from.ensures at c.put_number-colon.ensures) (rw c.from-2.ensures at c.put_marked.ensures)
