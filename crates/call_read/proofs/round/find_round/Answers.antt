-- The three returns: all positions (finds-all), those after the sequence's (finds-upper), those up to it (finds-lower). Assumes nothing.
use Rattle.std.proofs.Common.{sym, refl, subst, arith}
use Rattle.std.proofs.lemmas.Result.{err_from_is_err_and}
use Rattle.window.proofs.MemoryLaws.{capacity-ge}
use Rattle.call_read.specs.Promises.{FindsRound}
use Rattle.call_read.proofs.RoundLaws.{something, some_refusal, finds-all, finds-upper, finds-lower}
use Rattle.call_read.proofs.round.find_round.Goals as goal

pub find_live-requires-clause-window_size_bound : goal.find_live-requires-clause-window_size_bound
find_live-requires-clause-window_size_bound c = (c.requires.window_size_bound.0, c.requires.window_size_bound.1, omega (arith, c.capacity-end.ensures, capacity-ge c.args.w.window_size), omega (arith, c.capacity-end.ensures))

pub returns-in_err-find_live : goal.returns-in_err-find_live
returns-in_err-find_live c =
    let p = err_from_is_err_and c.from_residual.result c.from_residual.ensures.1 in
    rw (p.1, p.2) (finds-all _ _ _ _ _ _ _ c.position-start.ensures c.capacity-end.ensures _ c.if-end-start.true c.in_err-find_live.ensures)

pub returns-then-end-start : goal.returns-then-end-start
returns-then-end-start c =
    subst (FindsRound _ _ _ _ _) (sym c.read_answer.ensures) (finds-all _ _ _ _ _ _ _ c.position-start.ensures c.capacity-end.ensures _ c.if-end-start.true c.in_ok-find_live.ensures)

pub returns-in_err-found : goal.returns-in_err-found
returns-in_err-found c =
    let p = err_from_is_err_and c.from_residual-in_err-found.result c.from_residual-in_err-found.ensures.1 in
    rw (p.1, p.2)
    (finds-upper _ _ _ _ _ _ _ c.position-start.ensures c.capacity-end.ensures (omega (arith, c.if-end-start.false)) _ c.in_err-found.ensures (some_refusal _))

pub returns-in-Some : goal.returns-in-Some
returns-in-Some c =
    finds-upper _ _ _ _ _ _ _ c.position-start.ensures c.capacity-end.ensures (omega (arith, c.if-end-start.false)) _ (rw c.in-Some.is at c.in_ok-found.ensures) (something _)

pub returns-in_err-find_live-2 : goal.returns-in_err-find_live-2
returns-in_err-find_live-2 c =
    let p = err_from_is_err_and c.from_residual-in_err-find_live-2.result c.from_residual-in_err-find_live-2.ensures.1 in
    rw (p.1, p.2)
    (finds-lower _ _ _ _ _ _ _ c.position-start.ensures c.capacity-end.ensures (omega (arith, c.if-end-start.false)) _ _ (rw c.in_default.is at c.in_ok-found.ensures) refl c.in_err-find_live-2.ensures)

pub returns : goal.returns
returns c =
    subst (FindsRound _ _ _ _ _) (sym c.read_answer-2.ensures)
    (finds-lower _ _ _ _ _ _ _ c.position-start.ensures c.capacity-end.ensures (omega (arith, c.if-end-start.false)) _ _ (rw c.in_default.is at c.in_ok-found.ensures) refl c.in_ok-find_live-2.ensures)
