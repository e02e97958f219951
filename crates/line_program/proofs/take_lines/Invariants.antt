-- Line after line of a part. Assumes nothing.
use Rattle.std.proofs.Common.{◌-◌, length}
use Rattle.window.specs.Memory.{memory}
use Rattle.call_base.specs.Answers.{state_of}
use Rattle.line_program.proofs.InputLaws.{TakenSoFar}
use Rattle.line_program.proofs.take_lines.Given as goal

abbrev pub invariant-loop-program : goal.invariant-loop-program
invariant-loop-program l =
    TakenSoFar l.part l.initial.line (state_of l.initial.program.window (memory l.initial.sequences l.initial.values l.initial.pages l.initial.blocks)) l.initial.out l.initial.program l.line (state_of l.program.window (memory l.sequences l.values l.pages l.blocks)) l.out l.program

abbrev pub decreases-loop-program : goal.decreases-loop-program
decreases-loop-program l =
    length l.part - l.program.from
