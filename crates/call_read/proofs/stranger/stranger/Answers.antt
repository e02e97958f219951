-- Refused as admit_reading says, or else the answer of first_stranger. Assumes nothing.
use Rattle.std.proofs.Common.{refl}
use Rattle.model.specs.Calls.{stranger}
use Rattle.call_base.proofs.MeetsLaws.{asked-refusal}
use Rattle.call_base.proofs.ReadingLaws.{reading-meets, range-lent}
use Rattle.call_read.proofs.stranger.stranger.Goals as goal

pub returns-in-Err : goal.returns-in-Err
returns-in-Err c = asked-refusal (stranger c.args.first c.args.last) _ _ _ c.in-Err.ensures.refused c.refuse.ensures

pub first_stranger-requires : goal.first_stranger-requires
first_stranger-requires c = range-lent _ _ c.in-Ok.ensures.given c.args.first c.args.last c.in-Ok.ensures.admitted

pub returns-in-Ok : goal.returns-in-Ok
returns-in-Ok c =
    reading-meets _ _ c.in-Ok.ensures.given (stranger c.args.first c.args.last) c.in-Ok.ensures.admitted _ _ c.reply.ensures refl
    c.first_stranger.ensures
