-- `|` with the power of two of place k sets bit k and no other (set_code). Assumes nothing.
use Rattle.words.proofs.ChangeLaws.{one_shl, set_code}
use Rattle.words.proofs.set.Goals as goal

pub returns : goal.returns
returns c = rw (one_shl _ c.requires) (set_code _ _ c.ranges.w.fits c.requires)
