-- Each page has at most 64 values (ValueLaws). Assumes nothing.
use Rattle.std.proofs.Common.{arith, ◌+◌}
use Rattle.call_check.proofs.ValueLaws.{where-more, where-le}
use Rattle.call_check.proofs.values.values_where.Goals as goal

pub overflow_add-values : goal.overflow_add-values
overflow_add-values c =
    let s = c.args in
    omega (
      arith,
      where-more s.pages.now s.blocks.now s.retired_blocks s.retired s.from c.loop-i.i,
      where-le s.pages.now s.blocks.now s.retired_blocks s.retired s.from (c.loop-i.i + 1),
    )
