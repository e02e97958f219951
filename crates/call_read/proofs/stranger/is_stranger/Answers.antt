-- The distance is compared with the count. Assumes nothing.
use Rattle.std.proofs.Common.{ℕ, leb, ap}
use Rattle.call_read.proofs.stranger.is_stranger.Goals as goal

pub returns : goal.returns
returns c = ap (λ (d : ℕ). leb c.args.count d) c.distance.ensures
