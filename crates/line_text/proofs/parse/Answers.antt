use Rattle.std.proofs.Common.{arith, refl}
use Rattle.line_text.proofs.LoopLaws as laws
use Rattle.line_text.proofs.parse.Goals as goal

pub loop-i-init : goal.loop-i-init
loop-i-init c = laws.start c.args.line.now c.in_ok-count.count _ (omega arith) c.in_ok-count.ensures refl

pub loop-i-preserved : goal.loop-i-preserved
loop-i-preserved c =
    laws.turn _ _ _ _ _ _ c.loop-i.invariant _ _ c.loop-i-test.true c.if-line-at.false c.if-line-at-ne9.false c.next_byte-to.ensures
    c.in_ok-numbers.ensures
