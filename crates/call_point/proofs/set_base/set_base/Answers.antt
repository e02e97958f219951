-- The call is refused as `admits` says, or else sets the base, and the point for it. Assumes nothing.
use mathlib.Core.Path.{refl, sym, subst}
use mathlib.Core.List.{[]}
use Rattle.window.specs.declared.answers.Step.{Step}
use Rattle.window.specs.Memory.{memory}
use Rattle.model.specs.Calls.{set_base}
use Rattle.call_base.specs.Answers.{state_of, left_of}
use Rattle.call_base.specs.Promises.{Acts}
use Rattle.call_base.proofs.MeetsLaws.{refusal-meets, admitted-fits, window-asked, admitted-meets}
use Rattle.acknowledge.proofs.LentLaws.{lists-lent}
use Rattle.call_point.proofs.AcknowledgeLaws.{base-acts}
use Rattle.call_point.proofs.set_base.set_base.Goals as goal

pub returns-in-Err : goal.returns-in-Err
returns-in-Err c =
    let a = c.args in
    let u = state_of a.w (memory a.sequences.now a.values.now a.pages.now a.blocks.now) in
    refusal-meets (set_base a.base) u 384 refl [] _ _ c.in-Err.ensures c.refuse.ensures

pub after_base-requires : goal.after_base-requires
after_base-requires c =
    let a = c.args in
    let u = state_of a.w (memory a.sequences.now a.values.now a.pages.now a.blocks.now) in
    lists-lent a.w a.sequences.now a.values.now a.pages.now a.blocks.now (admitted-fits (set_base a.base) u 384 refl c.in-Ok.ensures)

pub returns-in-Ok : goal.returns-in-Ok
returns-in-Ok c =
    let a = c.args in
    let u = state_of a.w (memory a.sequences.now a.values.now a.pages.now a.blocks.now) in
    admitted-meets (set_base a.base) u 384 refl c.in-Ok.ensures [] _ refl
    (subst (λ (r : Step). Acts (set_base a.base) u [] (left_of r u.memory [])) (sym c.reply.ensures)
    (base-acts a.base a.w u.memory c.after_base.result (window-asked (set_base a.base) u 384 refl c.in-Ok.ensures) c.after_base.ensures))
