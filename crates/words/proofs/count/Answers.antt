-- `count_ones` is the sum of the 64 bits (count_code). Assumes nothing.
use Rattle.words.proofs.CountLaws.{count_code, count_fits}
use Rattle.words.proofs.count.Goals as goal

pub overflow_cast-result : goal.overflow_cast-result
overflow_cast-result c = count_fits _ c.ranges.w.fits

pub returns : goal.returns
returns c = count_code 64 _ c.ranges.w.fits
