use Rattle.std.proofs.Common.{◌∙◌, ap, arith}
use Rattle.std.specs.Prelude.{Ok}
use Rattle.call_base.specs.Answers.{answer_of}
use Rattle.line_calls.proofs.ListLaws as laws
use Rattle.line_calls.proofs.list.live_pairs.Goals as goal

pub loop-count-init : goal.loop-count-init
loop-count-init c = laws.start _ _ _

pub loop-count-preserved : goal.loop-count-preserved
loop-count-preserved c =
    laws.turn _ _ _ _ _ _ _ c.loop-count.invariant _ _ _ _ _ (omega arith) (omega arith) c.iter-step.ensures (ap answer_of (c.in-Ok.is ∙ ap Ok c.in-Pair.is))

pub returns-in_default : goal.returns-in_default
returns-in_default c =
    laws.no-pair _ _ _ _ _ _ _ c.loop-count.invariant _ c.iter-step.ensures (laws.refused_none c.iter-step.result.answer.answer _ c.in_default.is)

pub returns-in_default-given : goal.returns-in_default-given
returns-in_default-given c =
    laws.no-pair _ _ _ _ _ _ _ c.loop-count.invariant _ c.iter-step.ensures
    (laws.other_none c.iter-step.result.answer.answer _ c.in-Ok.is c.in_default-given.not-Pair)

pub returns : goal.returns
returns c = laws.full _ _ _ _ _ _ _ c.loop-count.invariant _ c.min-places.ensures (omega arith)
