-- The bits by `|` are those of the definition's test (marks-code). Assumes nothing.
use Rattle.std.proofs.Common.{◌^◌, ◌<◌, arith}
use Rattle.block_marks.proofs.MaskLaws.{marks-code}
use Rattle.block_marks.proofs.marks.mark_pages.Goals as goal

pub returns : goal.returns
returns c = let f : c.args.b.retired < 2 ^ 64 = omega arith in marks-code _ _ f c.ranges.pages.fits
