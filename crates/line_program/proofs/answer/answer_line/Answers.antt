-- A line, by what it says. Assumes nothing.
use Rattle.std.proofs.Common.{sym, ap}
use Rattle.line_program.proofs.AnswerLaws.{answers-as}
use Rattle.line_program.specs.Program.{kept_of, said_line}
use Rattle.call_base.specs.Answers.{state_of}
use Rattle.window.specs.Memory.{memory}
use Rattle.line_program.proofs.answer.answer_line.Goals as goal

pub returns-in_default : goal.returns-in_default
returns-in_default c =
    let u = state_of c.args.w (memory c.args.sequences.now c.args.values.now c.args.pages.now c.args.blocks.now) in
    (c.unknown.ensures.0, answers-as _ _ _ _ _ _ _ (ap (said_line (kept_of u)) (sym c.in_default.ensures)) c.unknown.ensures.1)

pub returns : goal.returns
returns c =
    let u = state_of c.args.w (memory c.args.sequences.now c.args.values.now c.args.pages.now c.args.blocks.now) in
    (c.answer.ensures.0, answers-as _ _ _ _ _ _ _ (ap (said_line (kept_of u)) (sym c.in-Some.ensures)) c.answer.ensures.1)
