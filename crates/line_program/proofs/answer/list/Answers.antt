-- The live pairs. Assumes nothing.
use Rattle.std.proofs.Common.{◌≡◌, length, arith, rules}
use Rattle.line_program.proofs.AnswerLaws.{list-answers}
use Rattle.line_program.proofs.answer.list.Goals as goal

pub returns : goal.returns
returns c =
    let places : length c.args.out.now ≡ 262144 = search rules in (
      omega arith,
      list-answers c.args.at _ places c.requires.at_bound _ _ _ _ _ _ _ _ c.requires.kept_in c.requires.window_size_nonzero (search rules) (search rules) (search rules)
          c.live_pairs-count.ensures c.put_list.ensures,
    )
