-- The loop has counted the pages before page from + i. Assumes nothing.
use Rattle.std.proofs.Common.{◌≡◌}
use Rattle.call_check.specs.Clauses.{values_where_of}
use Rattle.call_check.proofs.values.values_where.Given as goal

abbrev pub invariant-loop-i : goal.invariant-loop-i
invariant-loop-i l = l.values ≡ values_where_of l.pages l.blocks l.retired_blocks l.retired l.from l.i
