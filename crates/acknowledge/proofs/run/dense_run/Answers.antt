use Rattle.std.proofs.Common.{arith}
use Rattle.acknowledge.proofs.RunLaws.{row_more, end-from, end-top, used-before, unused-at}
use Rattle.acknowledge.proofs.run.dense_run.Goals as goal

pub loop-c-init : goal.loop-c-init
loop-c-init c =
    let e = c.lowest-end.ensures in (
      end-from c.args.filled c.args.slot _ (omega arith) (omega arith) e,
      end-top c.args.filled c.args.slot _ (omega arith) (omega arith) e,
      λ k a b. absurd (omega arith),
    )

pub loop-c-preserved : goal.loop-c-preserved
loop-c-preserved c =
    let i = c.loop-c.invariant in
    let j = c.loop-c.c in (
      i.0,
      i.1,
      row_more c.args.sequences.now c.args.filled c.args.row c.args.slot j i.2
          (used-before c.args.filled c.args.slot _ (omega arith) (omega arith) c.lowest-end.ensures j (omega arith) (omega arith), omega arith),
    )

pub returns : goal.returns
returns c =
    let i = c.loop-c.invariant in
    record {
      from = i.0;
      top = i.1;
      held = λ k a b. i.2 k a (omega (arith, b, c.loop-c-test.false));
      missed = λ l r. omega (arith, r.0, unused-at c.args.filled c.args.slot _ (omega arith) (omega arith) c.lowest-end.ensures l);
    }
