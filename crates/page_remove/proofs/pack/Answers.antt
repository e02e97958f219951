use Rattle.std.proofs.Common.{ℕ, List, ◌≡◌, ◌<◌, arith}
use Rattle.words.specs.Word.{lowest}
use Rattle.page_remove.proofs.PackLaws.{Packing, packing-begins, slot_lt, next-lt, packing-turn, packing-less, packing-ends}
use Rattle.page_remove.proofs.pack.Goals as goal

-- the lowest position of the rest is one of the page
slot : (occupied rest next : ℕ) (xs₀ xs : List ℕ) (q : ℕ) → Packing occupied rest next xs₀ xs → (rest ≡ 0 → ⊥) → q ≡ lowest rest 0 → q < 64
slot occupied rest next xs₀ xs q t more e = rw e (slot_lt occupied rest next xs₀ xs t more)

pub loop-rest-init : goal.loop-rest-init
loop-rest-init c = packing-begins _ _ (omega arith) (omega arith)

pub offset_bounds-cells-slot : goal.offset_bounds-cells-slot
offset_bounds-cells-slot c = omega (arith, slot _ _ _ _ _ _ c.loop-rest.invariant c.loop-rest-test.true c.lowest-slot.ensures)

pub bounds-cells-slot : goal.bounds-cells-slot
bounds-cells-slot c =
    omega (arith, slot _ _ _ _ _ _ c.loop-rest.invariant c.loop-rest-test.true c.lowest-slot.ensures, c.loop-rest.invariant.long)

pub offset_bounds-cells-next : goal.offset_bounds-cells-next
offset_bounds-cells-next c = omega (arith, next-lt _ _ _ _ _ c.loop-rest.invariant c.loop-rest-test.true)

pub bounds-cells-next : goal.bounds-cells-next
bounds-cells-next c = omega (arith, next-lt _ _ _ _ _ c.loop-rest.invariant c.loop-rest-test.true, c.loop-rest.invariant.long)

pub clear-rest-requires : goal.clear-rest-requires
clear-rest-requires c = slot _ _ _ _ _ _ c.loop-rest.invariant c.loop-rest-test.true c.lowest-slot.ensures

pub overflow_add-next : goal.overflow_add-next
overflow_add-next c = omega (arith, next-lt _ _ _ _ _ c.loop-rest.invariant c.loop-rest-test.true)

pub loop-rest-smaller : goal.loop-rest-smaller
loop-rest-smaller c = rw (c.clear-rest.ensures, c.lowest-slot.ensures) (packing-less _ _ _ _ _ c.loop-rest.invariant c.loop-rest-test.true)

pub loop-rest-preserved : goal.loop-rest-preserved
loop-rest-preserved c = rw (c.clear-rest.ensures, c.lowest-slot.ensures) (packing-turn _ _ _ _ _ c.loop-rest.invariant c.loop-rest-test.true)

pub returns : goal.returns
returns c = packing-ends _ _ _ _ _ c.loop-rest.invariant c.loop-rest-test.false
