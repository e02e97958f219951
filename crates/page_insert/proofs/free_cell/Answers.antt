use Rattle.std.proofs.Common.{◌≡◌, ◌∙◌, arith}
use Rattle.page_insert.specs.Insert.{free_of}
use Rattle.page_insert.proofs.FreeLaws.{free-code, free-le}
use Rattle.page_insert.proofs.free_cell.Goals as goal

pub returns-then-c-lt-PAGE_SLOTS-clause-lowest : goal.returns-then-c-lt-PAGE_SLOTS-clause-lowest
returns-then-c-lt-PAGE_SLOTS-clause-lowest c = c.lowest-c.ensures ∙ free-code _ (omega arith)

pub returns-clause-lowest : goal.returns-clause-lowest
returns-clause-lowest c =
    let e : c.lowest-c.result ≡ free_of c.args.filled = c.lowest-c.ensures ∙ free-code _ (omega arith) in
    omega (arith, free-le c.args.filled)
