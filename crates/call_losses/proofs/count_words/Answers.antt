use Rattle.std.proofs.Common.{◌≡◌, ◌+◌, ℕ, ap, ◌∙◌, arith}
use Rattle.laws_losses.proofs.LoopLaws.{run-count-le}
use Rattle.laws_losses.proofs.TurnLaws.{count-lost, count_kept, counted-few, count-end}
use Rattle.loss_stretch.specs.Promises.{seen_lost}
use Rattle.call_losses.proofs.count_words.Goals as goal
use Rattle.call_losses.proofs.count_words.Goals.{then-s, else-s}

pub overflow_add-total : goal.overflow_add-total
overflow_add-total c = omega (arith, counted-few _ _ _ _ _ _ c.loop-d.invariant.counted, run-count-le c.loop-d.run)

pub loop-d-preserved : goal.loop-d-preserved
loop-d-preserved c =
    let a = c.args in
    let lost = seen_lost a.w a.sequences.now a.pages.now a.blocks.now a.first in
    let k = c.loop-d.run in
    let n = c.loop-d.total in
    let t = c.loop-d.invariant.counted in
    let s = c.next_stretch-s.ensures in
    record {
      within = s.inside;
      counted = elim c.if-s.branch [
        | then-s w ↦ rw (w.run-is, w.total-is) (count-lost lost a.first a.count k c.loop-d.d n t _ s.inside (λ j from below. s.alike j from below ∙ w.if-s.true))
        | else-s w ↦
            rw (w.run-is, w.total-is ∙ ap (λ (x : ℕ). n + x) w.run_count-total.ensures)
            (count_kept lost a.first a.count k c.loop-d.d n t _ s.inside s.some (λ j from below. s.alike j from below ∙ w.if-s.false))
      ];
      knows = s.knows;
    }

pub overflow_add-result : goal.overflow_add-result
overflow_add-result c = omega (arith, counted-few _ _ _ _ _ _ c.loop-d.invariant.counted, run-count-le c.loop-d.run)

pub returns : goal.returns
returns c =
    let a = c.args in
    let e : c.loop-d.d ≡ a.count = omega arith in
    let lost = seen_lost a.w a.sequences.now a.pages.now a.blocks.now a.first in
    rw c.run_count.ensures (count-end lost a.first a.count c.loop-d.run c.loop-d.total (rw e at c.loop-d.invariant.counted))
