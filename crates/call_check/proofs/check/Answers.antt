-- Refused as admits says, or else the answer of checked. Assumes nothing.
use Rattle.window.specs.Memory.{memory}
use Rattle.model.specs.Calls.{check}
use Rattle.call_base.specs.Answers.{state_of}
use Rattle.call_base.proofs.MeetsLaws.{asked-refusal, asked-fits, checked-meets}
use Rattle.call_check.proofs.check.Goals as goal

pub returns-in-Err : goal.returns-in-Err
returns-in-Err c =
    let s = c.args in
    asked-refusal check (state_of s.w (memory s.sequences.now s.values.now s.pages.now s.blocks.now)) _ _ c.in-Err.ensures c.refuse.ensures

pub checked-requires : goal.checked-requires
checked-requires c =
    let s = c.args in
    asked-fits check (state_of s.w (memory s.sequences.now s.values.now s.pages.now s.blocks.now)) c.in_default.ensures

pub returns : goal.returns
returns c =
    let s = c.args in
    checked-meets check (state_of s.w (memory s.sequences.now s.values.now s.pages.now s.blocks.now)) c.in_default.ensures _ _ c.reply.ensures
    (λ q. c.checked.ensures.unsound) c.checked.ensures.sound
