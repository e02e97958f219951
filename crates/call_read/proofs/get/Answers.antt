-- Refused as admit_reading says, or else the answer of value_of. Assumes nothing.
use Rattle.std.proofs.Common.{refl}
use Rattle.model.specs.Calls.{get}
use Rattle.call_base.proofs.MeetsLaws.{asked-refusal}
use Rattle.call_base.proofs.ReadingLaws.{reading-meets}
use Rattle.call_read.proofs.get.Goals as goal

pub returns-in-Err : goal.returns-in-Err
returns-in-Err c = asked-refusal (get c.args.sequence) _ _ _ c.in-Err.ensures.refused c.refuse.ensures

pub returns-in-Ok : goal.returns-in-Ok
returns-in-Ok c =
    reading-meets _ _ c.in-Ok.ensures.given (get c.args.sequence) c.in-Ok.ensures.admitted _ _ c.reply.ensures refl
    c.value_of.ensures
