-- A call's line, by its letter and by whether there is a window. Assumes nothing.
use Rattle.std.proofs.Common.{arith}
use Rattle.line_program.proofs.AnswerLaws.{answers-as}
use Rattle.line_program.proofs.CommandLaws.{new_line_lem, list-line, call_line_lem, no-window}
use Rattle.line_program.specs.Program.{kept_of}
use Rattle.call_base.specs.Answers.{state_of}
use Rattle.window.specs.Memory.{memory}
use Rattle.line_program.proofs.answer.answer.Goals as goal

pub returns-then-f-eq110 : goal.returns-then-f-eq110
returns-then-f-eq110 c =
    let u = state_of c.args.w (memory c.args.sequences.now c.args.values.now c.args.pages.now c.args.blocks.now) in (
      c.create.ensures.0,
      answers-as _ _ _ _ _ _ _ (new_line_lem (kept_of u) c.args.f c.if-f-eq110.true) c.create.ensures.1,
    )

pub returns-then-w-eq0 : goal.returns-then-w-eq0
returns-then-w-eq0 c =
    let u = state_of c.args.w (memory c.args.sequences.now c.args.values.now c.args.pages.now c.args.blocks.now) in (
      c.unknown.ensures.0,
      answers-as _ _ _ _ _ _ _ (no-window (kept_of u) c.args.f c.if-f-eq110.false c.if-w-eq0.true) c.unknown.ensures.1,
    )

pub list-requires : goal.list-requires
list-requires c =
    record { kept_in = c.requires.kept_in; at_bound = c.requires.at_bound; window_size_nonzero = omega (arith, c.if-w-eq0.false) }

pub returns-then-f-eq108 : goal.returns-then-f-eq108
returns-then-f-eq108 c =
    let u = state_of c.args.w (memory c.args.sequences.now c.args.values.now c.args.pages.now c.args.blocks.now) in (
      c.list.ensures.0,
      answers-as _ _ _ _ _ _ _ (list-line (kept_of u) c.args.f c.if-f-eq108.true (omega (arith, c.if-w-eq0.false))) c.list.ensures.1,
    )

pub answer_call-requires : goal.answer_call-requires
answer_call-requires c =
    record { kept_in = c.requires.kept_in; at_bound = c.requires.at_bound; window_size_nonzero = omega (arith, c.if-w-eq0.false) }

pub returns : goal.returns
returns c =
    let u = state_of c.args.w (memory c.args.sequences.now c.args.values.now c.args.pages.now c.args.blocks.now) in (
      c.answer_call.ensures.0,
      answers-as _ _ _ _ _ _ _ (call_line_lem (kept_of u) c.args.f c.if-f-eq110.false c.if-f-eq108.false) c.answer_call.ensures.1,
    )
