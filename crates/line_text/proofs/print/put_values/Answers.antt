use Rattle.line_text.proofs.PrintLaws.{start, turn, tabbed-none, values_so_far, values-more, marked-few}
use Rattle.line_text.proofs.print.put_values.Goals as goal

pub loop-value-init : goal.loop-value-init
loop-value-init c = start _ 21 (values_so_far _) _ tabbed-none

pub loop-value-preserved : goal.loop-value-preserved
loop-value-preserved c =
    let m = c.put_marked-to in
    turn _ 21 (values_so_far _) _ _ _ _ _ _ _ c.loop-value.invariant (values-more _ c.loop-value.value-index c.loop-value-test.true)
    (marked-few 9 _) (rw c.from.ensures at m.ensures) m.auto.out
