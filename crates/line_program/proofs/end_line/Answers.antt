-- A line that has ended, answered and noted. Assumes nothing.
use Rattle.std.proofs.Common.{refl, rules}
use Rattle.line_program.proofs.end_line.Goals as goal

pub returns : goal.returns
returns c =
    let t = c.answer_line-answered.ensures in (
      refl,
      record { answers = t.1; notes = c.note.ensures; begins = refl; places = search rules; room = t.0 },
    )
