-- `&` with the number before clears the lowest set bit and no other (lowest-cleared). Assumes nothing.
use Rattle.page_remove.proofs.DenseLaws.{lowest-cleared}
use Rattle.page_remove.proofs.drain.clear_lowest.Goals as goal

pub returns : goal.returns
returns c = lowest-cleared _ c.ranges.w.fits c.requires
