-- What the tactics know of the two loops over stretches. Assumes nothing.
use Rattle.laws_losses.proofs.LoopLaws.{run-count-le}
use Rattle.laws_losses.proofs.TurnLaws.{count-none-yet, count-lost, count_kept, counted-few, count-end, filled-over, stored-long, wrote_none, wrote-lost, kept-room, wrote_kept, end-room, wrote-end}

-- the words counted
pub ruleset counting = (count-none-yet, count-lost, count_kept, counted-few, count-end, run-count-le)

-- and written
pub ruleset writing = (wrote_none, wrote-lost, kept-room, wrote_kept, end-room, wrote-end, stored-long, filled-over)
