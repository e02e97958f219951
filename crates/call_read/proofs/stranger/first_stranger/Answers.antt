-- What the search over the range found, as a pair (stranger-is). Assumes nothing.
use Rattle.std.proofs.lemmas.Result.{err_from_is_err_and}
use Rattle.call_base.specs.Reading.{state_in}
use Rattle.call_read.proofs.StrangerAnswerLaws.{gives_refused, stranger-is}
use Rattle.call_read.proofs.stranger.first_stranger.Goals as goal

pub returns-in_err-found : goal.returns-in_err-found
returns-in_err-found c =
    let w = c.args.window in
    let m = (state_in w).memory in
    let p = err_from_is_err_and c.from_residual.result c.from_residual.ensures.1 in
    λ ok. rw (p.1, p.2) (stranger-is w.header m c.args.first c.args.last _ c.range_count-count.ensures _ _ c.in_err-found.ensures (gives_refused w.header m _) ok)

pub returns : goal.returns
returns c =
    let w = c.args.window in
    stranger-is w.header (state_in w).memory c.args.first c.args.last _ c.range_count-count.ensures _ _ c.in_ok-found.ensures c.stranger_answer.ensures
