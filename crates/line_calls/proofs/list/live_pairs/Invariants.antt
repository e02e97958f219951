-- The pairs listed so far and those that iter gives from the next cell on are the live pairs. Assumes nothing.
use Rattle.window.specs.Memory.{memory}
use Rattle.call_base.specs.Answers.{state_of}
use Rattle.line_calls.proofs.ListLaws as laws
use Rattle.line_calls.proofs.list.live_pairs.Given as goal

abbrev pub invariant-loop-count : goal.invariant-loop-count
invariant-loop-count l =
    laws.SoFar (state_of l.w (memory l.sequences l.values l.pages l.blocks)) l.initial.listed_sequences l.initial.listed_values l.listed_sequences l.listed_values l.cell l.count
