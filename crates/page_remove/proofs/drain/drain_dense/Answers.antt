use Rattle.std.proofs.Common.{ℕ, ◌≡◌, ◌∙◌, ◌^◌, ◌≤◌, ◌<◌, ap, arith}
use Rattle.words.specs.Word.{lowest}
use Rattle.words.proofs.LowestLaws.{lowest-some}
use Rattle.page_remove.specs.Promises.{run_length_of}
use Rattle.page_remove.proofs.DenseLaws.{dense-begins, dense-turn, dense-empty, dense-ends}
use Rattle.page_remove.proofs.RunLaws.{Run, run-selected, dense-turns}
use Rattle.page_remove.proofs.drain.drain_dense.Goals as goal
use Rattle.page_remove.proofs.drain.drain_dense.Goals.{else-loop-selected-test, then-loop-selected-test+then-limit-count}

module _ (selected from : ℕ) (small : selected < 2 ^ 64) (some : selected ≡ 0 → ⊥) (low : from ≡ lowest selected 0) where
  -- the lowest selected position is one of the page
  below : from < 64
  below = rw low (lowest-some selected small some)

  -- the run from there on
  runs : (n most : ℕ) → 0 < most → n ≡ run_length_of selected from most → (0 < n) × (n ≤ most) × (from ≡ lowest selected 0) × Run selected n
  runs n most room e =
      let same : n ≡ run_length_of selected (lowest selected 0) most = e ∙ ap (λ (x : ℕ). run_length_of selected x most) low in
      let r = run-selected selected most small some room in
      rw same (r.0, r.1, low, r.2)

pub loop-selected-init : goal.loop-selected-init
loop-selected-init c = dense-begins _ _ _ _ _ _ (omega arith) (omega arith)

pub run_length-n-requires : goal.run_length-n-requires
run_length-n-requires c = below _ _ c.loop-selected.invariant.small c.loop-selected-test.true c.lowest-from.ensures

pub offset_bounds-values-from : goal.offset_bounds-values-from
offset_bounds-values-from c =
    omega (arith, below _ _ c.loop-selected.invariant.small c.loop-selected-test.true c.lowest-from.ensures)

pub bounds-values-from : goal.bounds-values-from
bounds-values-from c = omega (arith, below _ _ c.loop-selected.invariant.small c.loop-selected-test.true c.lowest-from.ensures)

pub loop-selected-preserved-then-n-eq1 : goal.loop-selected-preserved-then-n-eq1
loop-selected-preserved-then-n-eq1 c =
    rw (c.clear_lowest-selected.ensures, c.lowest-from.ensures)
    (dense-turn _ _ _ _ _ _ (omega arith) (omega arith) _ _ _ c.loop-selected.invariant (omega arith) (omega arith) c.loop-selected-test.true)

pub copy_values-requires : goal.copy_values-requires
copy_values-requires c =
    let i = c.loop-selected in
    let r = runs _ _ i.invariant.small c.loop-selected-test.true c.lowest-from.ensures _ _ (omega arith) c.run_length-n.ensures in
    (omega (arith, r.2, r.3.0), omega (arith, r.1))

pub overflow_add-from : goal.overflow_add-from
overflow_add-from c =
    let i = c.loop-selected in
    let r = runs _ _ i.invariant.small c.loop-selected-test.true c.lowest-from.ensures _ _ (omega arith) c.run_length-n.ensures in
    omega (arith, r.2, r.3.0)

pub span-requires : goal.span-requires
span-requires c =
    let i = c.loop-selected in
    let r = runs _ _ i.invariant.small c.loop-selected-test.true c.lowest-from.ensures _ _ (omega arith) c.run_length-n.ensures in
    (omega (arith, r.0), omega (arith, r.2, r.3.0))

pub loop-selected-smaller : goal.loop-selected-smaller
loop-selected-smaller c =
    let i = c.loop-selected in
    let r = runs _ _ i.invariant.small c.loop-selected-test.true c.lowest-from.ensures _ _ (omega arith) c.run_length-n.ensures in
    omega (arith, r.0, r.1)

pub loop-selected-preserved : goal.loop-selected-preserved
loop-selected-preserved c =
    let i = c.loop-selected in
    let r = runs _ _ i.invariant.small c.loop-selected-test.true c.lowest-from.ensures _ _ (omega arith) c.run_length-n.ensures in
    rw (c.copy_values.ensures, c.span.ensures, r.2)
    (dense-turns _ _ _ _ _ _ _ (omega arith) (omega arith) _ _ i.invariant (omega arith) (omega arith) c.run_length-n.result (omega (arith, r.1)) r.3)

pub shape_of-returned : goal.shape_of-returned
shape_of-returned c = c.loop-selected.invariant.long

pub returns : goal.returns
returns c =
    let i = c.loop-selected.invariant in
    elim c.loop-selected-test.branch [
      | else-loop-selected-test w ↦ dense-empty _ _ _ _ _ _ (omega arith) (omega arith) _ _ _ i w.loop-selected-test.false
      | then-loop-selected-test+then-limit-count w ↦ dense-ends _ _ _ _ _ _ (omega arith) (omega arith) _ _ _ i w.if-limit-count.true
    ]
