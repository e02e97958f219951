-- A line that is no call. Assumes nothing.
use Rattle.std.proofs.Common.{◌≡◌, length, arith, rules}
use Rattle.line_program.proofs.AnswerLaws.{unknown-answers}
use Rattle.line_program.proofs.answer.unknown.Goals as goal

pub returns : goal.returns
returns c =
    let places : length c.args.out.now ≡ 262144 = search rules in
    (omega arith, unknown-answers c.args.at _ places c.requires.at_bound _ _ _ c.requires.kept_in c.put_unknown.ensures)
