use Rattle.std.proofs.Common.{sym, ◌∙◌, inl, inr, ⊎_elim, arith}
use Rattle.std.specs.Prelude.{Ok, Some}
use Rattle.std.proofs.lemmas.Result.{err_from_is_err_and}
use Rattle.block_search.specs.Promises.{FindsLive}
use Rattle.call_read.proofs.StrangerLaws.{searched-begins, finds-none, finds-no-live, finds-refused, finds-stranger, finds-outside, searched-more}
use Rattle.call_read.proofs.stranger.find_stranger.Goals as goal
use Rattle.call_read.proofs.stranger.find_stranger.Goals.{In-Some}

-- what the walk found
found-live : (c : In-Some) → let w = c.args.window.now in FindsLive w.header w.sequences.now w.pages.now w.blocks.now c.loop-from.from c.args.end (Ok (Some c.in-Some.sequence))
found-live c = rw c.in-Some.is at c.in_ok-sequence.ensures

pub loop-from-init : goal.loop-from-init
loop-from-init c = searched-begins _ _ _ _ _ _ _

pub returns-in_err-sequence : goal.returns-in_err-sequence
returns-in_err-sequence c =
    let p = err_from_is_err_and c.from_residual.result c.from_residual.ensures.1 in
    rw (p.1, p.2) (finds-refused _ _ _ _ _ _ _ _ _ c.loop-from.invariant _ c.in_err-sequence.ensures)

pub returns-in_default : goal.returns-in_default
returns-in_default c = finds-no-live _ _ _ _ _ _ _ _ _ c.loop-from.invariant (omega (arith, c.loop-from-test.true)) (rw c.in_default.is at c.in_ok-sequence.ensures)

pub returns-then-is_stranger : goal.returns-then-is_stranger
returns-then-is_stranger c =
    finds-stranger _ _ _ _ _ _ _ _ _ c.loop-from.invariant _ (found-live (goal.at.returns-then-is_stranger c).In-Some) (sym c.is_stranger.ensures ∙ c.if-is_stranger.true)

pub returns-then-at-from : goal.returns-then-at-from
returns-then-at-from c =
    finds-outside _ _ _ _ _ _ _ _ _ c.loop-from.invariant _ (found-live (goal.at.returns-then-at-from c).In-Some) _ c.position-at.ensures (omega arith)
    (⊎_elim inl (λ w. inr w.1) c.then-at-from.either) _

pub loop-from-preserved : goal.loop-from-preserved
loop-from-preserved c =
    searched-more _ _ _ _ _ _ _ _ _ c.loop-from.invariant _ (found-live (goal.at.loop-from-preserved c).In-Some) _ c.position-at.ensures (omega arith)
    (sym c.is_stranger.ensures ∙ c.if-is_stranger.false) (omega (arith, c.if-at-from.false))

pub returns : goal.returns
returns c = finds-none _ _ _ _ _ _ _ _ _ c.loop-from.invariant (omega arith) (omega (arith, c.loop-from-test.false))
