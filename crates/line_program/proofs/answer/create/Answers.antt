-- A new window, or the refusal of one. Assumes nothing.
use Rattle.std.proofs.Common.{◌≡◌, length, arith, rules}
use Rattle.call_base.specs.Answers.{state_of}
use Rattle.window.specs.Memory.{memory}
use Rattle.line_program.proofs.AnswerLaws.{new-larger, new-made, new-refused}
use Rattle.line_program.proofs.answer.create.Goals as goal

pub returns-then-f-gt4096 : goal.returns-then-f-gt4096
returns-then-f-gt4096 c =
    let u = state_of c.args.w (memory c.args.sequences.now c.args.values.now c.args.pages.now c.args.blocks.now) in
    (c.unknown.ensures.0, new-larger c.args.f.first c.args.f.second c.args.f.third u _ _ _ _ _ (omega arith) c.unknown.ensures.1)

pub returns-in-Ok : goal.returns-in-Ok
returns-in-Ok c =
    let t = c.new in
    let u = state_of c.args.w (memory c.args.sequences.now c.args.values.now c.args.pages.now c.args.blocks.now) in
    let m = memory t.new.sequences t.new.values t.new.pages t.new.blocks in
    let places : length c.args.out.now ≡ 262144 = search rules in (
      omega arith,
      new-made c.args.at _ places c.requires.at_bound c.args.f.first c.args.f.second c.args.f.third u _ _ c.args.returned.now (search rules) (omega arith) _ m
          c.in-Ok.ensures c.put_line.ensures,
    )

pub returns-in-Err : goal.returns-in-Err
returns-in-Err c =
    let t = c.new in
    let u = state_of c.args.w (memory c.args.sequences.now c.args.values.now c.args.pages.now c.args.blocks.now) in
    let m = memory t.new.sequences t.new.values t.new.pages t.new.blocks in
    let places : length c.args.out.now ≡ 262144 = search rules in (
      omega arith,
      new-refused c.args.at _ places c.requires.at_bound c.args.f.first c.args.f.second c.args.f.third u _ _ c.args.returned.now (search rules) (omega arith)
          (search rules) (search rules) (search rules) (search rules) c.requires.kept_in _ m c.in-Err.ensures c.put_line-in-Err.ensures,
    )
