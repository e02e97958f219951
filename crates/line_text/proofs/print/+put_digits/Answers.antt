use Rattle.std.proofs.Common.{arith}
use Rattle.line_text.proofs.PrintLaws.{put_then, one-digit, more-digits, one-length, more-length}
use Rattle.line_text.proofs.print.+put_digits.Goals as goal

pub put_byte-requires : goal.put_byte-requires
put_byte-requires t c = omega (arith, c.requires, one-length c.args.number c.if-number-lt10.true)

pub returns-then-number-lt10 : goal.returns-then-number-lt10
returns-then-number-lt10 t c = rw (one-digit c.args.number c.if-number-lt10.true) c.put_byte.ensures

pub put_digits-to-requires : goal.put_digits-to-requires
put_digits-to-requires t c =
    let g = c.if-number-lt10.false in
    (omega (arith, g, c.decreases), omega (arith, c.requires, more-length c.args.number c.ranges.number.fits g))

pub put_byte-requires-2 : goal.put_byte-requires-2
put_byte-requires-2 t c =
    let d = c.put_digits-to in
    omega (arith, c.requires, d.ensures.end, d.auto.out, more-length c.args.number c.ranges.number.fits c.if-number-lt10.false)

pub returns : goal.returns
returns t c =
    rw (more-digits c.args.number c.ranges.number.fits c.if-number-lt10.false)
    (put_then _ _ _ _ _ _ _ _ c.put_digits-to.ensures c.put_byte-2.ensures)
