-- Refused as admit_reading says, or else the answer of next_pair. Assumes nothing.
use Rattle.std.proofs.Common.{refl}
use Rattle.model.specs.Calls.{iter}
use Rattle.call_base.proofs.MeetsLaws.{asked-refusal}
use Rattle.call_base.proofs.ReadingLaws.{reading-meets}
use Rattle.call_read.proofs.iter.Goals as goal

pub returns-in-Err : goal.returns-in-Err
returns-in-Err c = asked-refusal (iter c.args.cell) _ _ _ c.in-Err.ensures.refused c.refuse.ensures

pub returns-in-Ok : goal.returns-in-Ok
returns-in-Ok c =
    reading-meets _ _ c.in-Ok.ensures.given (iter c.args.cell) c.in-Ok.ensures.admitted _ _ c.reply.ensures refl
    c.next_pair.ensures
