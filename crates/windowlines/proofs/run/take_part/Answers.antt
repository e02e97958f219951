-- The part is the first n bytes of the buffer. Assumes nothing.
use Rattle.std.proofs.Common.{length-take-le}
use Rattle.windowlines.proofs.run.take_part.Goals as goal

pub returns : goal.returns
returns c = rw (length-take-le c.args.r.n c.args.input.now c.requires.n_in_bounds) at c.take_lines.ensures
