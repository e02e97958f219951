-- `&` with the complement of place k's power of two clears bit k and no other (clear-code). Assumes nothing.
use Rattle.words.proofs.ChangeLaws.{one_shl, clear-code}
use Rattle.words.proofs.clear.Goals as goal

pub returns : goal.returns
returns c = rw (one_shl _ c.requires) (clear-code _ _ c.ranges.w.fits c.requires)
