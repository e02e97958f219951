use Rattle.std.proofs.Common.{arith}
use Rattle.acknowledge.proofs.StepLaws.{pass_all, pass-end, pass-stop, pass_on}
use Rattle.acknowledge.proofs.advance.Goals as goal

pub returns-then-size-next : goal.returns-then-size-next
returns-then-size-next c = pass-end _ _ _ _ _ _ _ _ _ c.loop-d.invariant c.sequence_at-sequence.ensures c.live_run-end.ensures c.if-size-next.true

pub returns-then-end-lt64 : goal.returns-then-end-lt64
returns-then-end-lt64 c = pass-stop _ _ _ _ _ _ _ _ _ c.loop-d.invariant c.sequence_at-sequence.ensures c.live_run-end.ensures (omega arith) c.if-end-lt64.true

pub loop-d-preserved : goal.loop-d-preserved
loop-d-preserved c = pass_on _ _ _ _ _ _ _ _ _ c.loop-d.invariant c.sequence_at-sequence.ensures c.live_run-end.ensures (omega arith)

pub returns : goal.returns
returns c = pass_all _ _ _ _ _ _ _ c.loop-d.invariant (omega arith)
