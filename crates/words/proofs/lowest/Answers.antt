-- Under the mask of the bits from k up, `trailing_zeros` is the lowest set bit at or above k (lowest-code). Assumes nothing.
use Rattle.words.proofs.LowestLaws.{lowest-code, trailing-fits}
use Rattle.words.proofs.lowest.Goals as goal

pub overflow_cast-result : goal.overflow_cast-result
overflow_cast-result c = trailing-fits _

pub returns : goal.returns
returns c = lowest-code _ _ c.requires
