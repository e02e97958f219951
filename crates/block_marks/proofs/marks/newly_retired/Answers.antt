-- The bits by `&` and `!` are those of the definition's test (newly-code). Assumes nothing.
use Rattle.std.proofs.Common.{◌^◌, ◌<◌, arith}
use Rattle.block_marks.proofs.MaskLaws.{newly-code}
use Rattle.block_marks.proofs.marks.newly_retired.Goals as goal

pub returns : goal.returns
returns c =
    let x = c.args.b in
    let f : x.nonempty < 2 ^ 64 = omega arith in
    let g : x.retired < 2 ^ 64 = omega arith in
    newly-code _ _ f g
