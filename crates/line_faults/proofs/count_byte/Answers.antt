-- The definition says what the chain counts. Assumes nothing.
use Rattle.std.proofs.Common.{rules}
use Rattle.line_faults.proofs.FaultLaws.{counted}
use Rattle.line_faults.proofs.count_byte.Goals as goal

pub returns : goal.returns
returns c = rw (counted c.args.byte c.args.line.now) (search rules)
