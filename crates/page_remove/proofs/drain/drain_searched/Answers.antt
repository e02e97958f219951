use Rattle.std.proofs.Common.{ℕ, ◌≡◌, ◌^◌, ◌<◌, arith, rules}
use lib.Bits.{bit_and, and_le_r}
use Rattle.words.specs.Word.{lowest}
use Rattle.words.proofs.LowestLaws.{lowest-some}
use Rattle.page_remove.proofs.DrainLoopLaws.{draining-begins, draining-turn, draining-ends, draining-empty, draining-unsound}
use Rattle.page_remove.proofs.drain.drain_searched.Goals as goal

-- the lowest position selected is one of the page
inside : (occupied slots q : ℕ) → slots < 2 ^ 64 → (bit_and occupied slots ≡ 0 → ⊥) → q ≡ lowest (bit_and occupied slots) 0 → q < 64
inside occupied slots q l some e = rw e (lowest-some _ (omega (arith, and_le_r occupied slots)) some)

pub loop-count-init : goal.loop-count-init
loop-count-init c = draining-begins _ _ _ _ _ _ _ _

pub slot_at-requires : goal.slot_at-requires
slot_at-requires c = (search rules, search rules, inside _ _ _ (omega arith) c.if-selected-eq0.false c.lowest-slot.ensures)

pub take_cell-left-requires : goal.take_cell-left-requires
take_cell-left-requires c = (inside _ _ _ (omega arith) c.if-selected-eq0.false c.lowest-slot.ensures, search rules)

pub loop-count-preserved : goal.loop-count-preserved
loop-count-preserved c =
    rw c.take_cell-left.ensures
    (draining-turn _ _ _ _ _ _ _ _ _ _ _ _ c.loop-count.invariant (omega arith) (omega arith) c.loop-count-test.true c.if-selected-eq0.false _ _
    c.lowest-slot.ensures c.in-Some.ensures)

pub returns-after-loop-count : goal.returns-after-loop-count
returns-after-loop-count c = draining-ends _ _ _ _ _ _ _ _ _ _ _ _ c.loop-count.invariant c.loop-count-test.false

pub returns-then-selected-eq0 : goal.returns-then-selected-eq0
returns-then-selected-eq0 c = draining-empty _ _ _ _ _ _ _ _ _ _ _ _ c.loop-count.invariant c.if-selected-eq0.true

pub returns-in_default : goal.returns-in_default
returns-in_default c =
    draining-unsound _ _ _ _ _ _ _ _ _ _ _ _ c.loop-count.invariant (omega arith) c.if-selected-eq0.false _ c.lowest-slot.ensures
    c.in_default.ensures
