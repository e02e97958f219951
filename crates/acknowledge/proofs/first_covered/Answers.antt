use Rattle.std.proofs.Common.{◌≡◌, ℕ, ◌+◌, ◌-◌, ◌%◌, ◌<◌, ◌^◌, ◌∙◌, arith}
use Rattle.acknowledge.proofs.CoverLaws.{least-own, least_first}
use Rattle.acknowledge.proofs.first_covered.Goals as goal

-- what wrapping_sub gives is added back
back : (a b : ℕ) → a < 2 ^ 32 → b < 2 ^ 32 → ((a + (2 ^ 32 - b)) % 2 ^ 32 + b) % 2 ^ 32 ≡ a
back a b l m = omega arith

pub returns-then-past-count : goal.returns-then-past-count
returns-then-past-count c =
    let s = c.args in
    let p = c.position-past.ensures in
    least-own s.size s.base s.first s.count _ (omega arith) (back s.base s.first (omega arith) (omega arith)) (rw p at c.if-past-count.true)

pub returns : goal.returns
returns c =
    let s = c.args in
    let p = c.position-past.ensures in
    c.position.ensures
    ∙ least_first s.size s.base s.first s.count _ (omega arith) (back s.base s.first (omega arith) (omega arith))
    (rw p at c.if-past-count.false) _ (back s.first s.base (omega arith) (omega arith))
