-- A last line without a line feed. Assumes nothing.
use Rattle.std.proofs.Common.{ℕ, subst}
use Rattle.line_program.proofs.InputLaws.{none_left, last-answered}
use Rattle.line_program.specs.Promises.{Holds}
use Rattle.call_base.specs.Answers.{state_of}
use Rattle.window.specs.Memory.{memory}
use Rattle.line_program.proofs.take_last.Goals as goal

pub returns-then-p-eq0 : goal.returns-then-p-eq0
returns-then-p-eq0 c =
    let u = state_of c.args.p.window (memory c.args.sequences.now c.args.values.now c.args.pages.now c.args.blocks.now) in
    λ b h. none_left u _ b _ _ c.requires.kept_in (subst (λ (n : ℕ). Holds c.args.line.now n b) c.if-p-eq0.true h)

pub returns : goal.returns
returns c =
    let u = state_of c.args.p.window (memory c.args.sequences.now c.args.values.now c.args.pages.now c.args.blocks.now) in
    λ b h. last-answered u c.args.p _ _ _ _ _ _ b c.if-p-eq0.false h c.end_line.ensures.1
