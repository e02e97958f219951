-- A letter other than n and l, on a window. Assumes nothing.
use Rattle.std.proofs.Common.{◌≡◌, length, arith, rules}
use Rattle.line_program.proofs.AnswerLaws.{made-answers, unmade-kept, unmade-answers}
use Rattle.line_calls.specs.Calls.{call_of}
use Rattle.line_text.specs.Promises.{said_by}
use Rattle.call_base.specs.Answers.{state_of}
use Rattle.window.specs.Memory.{memory}
use Rattle.line_program.proofs.answer.answer_call.Goals as goal

pub unknown-requires : goal.unknown-requires
unknown-requires c =
    let t = c.call in
    let u = state_of c.args.w (memory c.args.sequences.now c.args.values.now c.args.pages.now c.args.blocks.now) in
    let m = memory t.new.sequences t.new.values t.new.pages t.new.blocks in
    record { kept_in = unmade-kept (call_of (said_by c.args.f)) u c.args.returned.now m t.new.returned c.in_default.ensures c.requires.kept_in; at_bound = c.requires.at_bound }

pub returns-in_default : goal.returns-in_default
returns-in_default c =
    let t = c.call in
    let u = state_of c.args.w (memory c.args.sequences.now c.args.values.now c.args.pages.now c.args.blocks.now) in
    let m = memory t.new.sequences t.new.values t.new.pages t.new.blocks in (
      c.unknown.ensures.0,
      unmade-answers (call_of (said_by c.args.f)) u c.args.returned.now m t.new.returned c.in_default.ensures c.args.f.letter _ _ _ _ _ (search rules) c.unknown.ensures.1,
    )

pub returns : goal.returns
returns c =
    let t = c.call in
    let u = state_of c.args.w (memory c.args.sequences.now c.args.values.now c.args.pages.now c.args.blocks.now) in
    let m = memory t.new.sequences t.new.values t.new.pages t.new.blocks in
    let places : length c.args.out.now ≡ 262144 = search rules in (
      omega arith,
      made-answers c.args.at _ places c.requires.at_bound (call_of (said_by c.args.f)) c.args.f.letter u c.args.returned.now m t.new.returned (search rules) _ _ _ c.in-Some.ensures
          c.requires.kept_in c.requires.window_size_nonzero (search rules) c.put_line.ensures,
    )
