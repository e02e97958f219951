-- The call is refused as `admits` says, or else does what `exchange_value` promises, which leaves the point right. Assumes nothing.
use mathlib.Core.Path.{refl}
use mathlib.Core.List.{[]}
use Rattle.window.specs.Memory.{memory}
use Rattle.model.specs.Calls.{exchange}
use Rattle.call_base.specs.Answers.{state_of}
use Rattle.call_base.proofs.MeetsLaws.{refusal-meets, admitted-fits, window-asked, admitted-meets}
use Rattle.call_point.proofs.AcknowledgeLaws.{exchange-acts}
use Rattle.call_point.proofs.exchange.exchange.Goals as goal

pub returns-in-Err : goal.returns-in-Err
returns-in-Err c =
    let a = c.args in
    let u = state_of a.w (memory a.sequences.now a.values.now a.pages.now a.blocks.now) in
    refusal-meets (exchange a.sequence a.value) u 384 refl [] _ _ c.in-Err.ensures c.refuse.ensures

pub exchange_value-requires : goal.exchange_value-requires
exchange_value-requires c =
    let a = c.args in
    let u = state_of a.w (memory a.sequences.now a.values.now a.pages.now a.blocks.now) in
    admitted-fits (exchange a.sequence a.value) u 384 refl c.in-Ok.ensures

pub returns-in-Ok : goal.returns-in-Ok
returns-in-Ok c =
    let a = c.args in
    let u = state_of a.w (memory a.sequences.now a.values.now a.pages.now a.blocks.now) in
    admitted-meets (exchange a.sequence a.value) u 384 refl c.in-Ok.ensures [] _ refl
    (exchange-acts a.sequence a.value u [] _ c.exchange_value.ensures (window-asked (exchange a.sequence a.value) u 384 refl c.in-Ok.ensures))
