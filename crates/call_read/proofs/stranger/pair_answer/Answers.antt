-- What value_of found is the pair's value (gives-pair); on a sound window it finds one (gives_none). Assumes nothing.
use Rattle.window.specs.declared.refusals.Refusal.TheVariants.{Unsound}
use Rattle.call_base.specs.Reading.{state_in}
use Rattle.call_read.proofs.StrangerAnswerLaws.{gives_none}
use Rattle.call_read.proofs.stranger.pair_answer.Goals as goal

pub returns-in_default : goal.returns-in_default
returns-in_default c =
    gives_none c.args.window.header (state_in c.args.window).memory c.args.sequence c.value_of.result c.value_of.ensures c.in_default.not-Found Unsound
