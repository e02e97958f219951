-- A number of 64 bits has at most 20 digits, so they have room. Assumes nothing.
use native.Mathlib.Omega.{arith}
use Rattle.line_text.proofs.PrintLaws.{at-most-20}
use Rattle.line_text.proofs.print.put_number.Goals as goal

pub put_digits-requires : goal.put_digits-requires
put_digits-requires c = omega (arith, c.requires, at-most-20 c.args.number)
