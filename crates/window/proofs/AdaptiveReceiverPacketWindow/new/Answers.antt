-- The three cases of the definition are the code's three returns (new-limits, new-short, new-made). Assumes nothing.
use Rattle.std.proofs.Common.{sym, ◌∙◌, arith}
use Rattle.std.proofs.lemmas.Result.{err_from_is_err_and}
use Rattle.window.specs.Refusals.{LongEnough}
use Rattle.window.specs.New.{cleared}
use Rattle.window.proofs.RefusalLaws.{limits-within, long-enough-is}
use Rattle.window.proofs.MemoryLaws.{page-count-le}
use Rattle.window.proofs.NewLaws.{new-limits, new-short, new-made}
use Rattle.window.proofs.AdaptiveReceiverPacketWindow.new.Goals as goal

pub returns-in_err-limits : goal.returns-in_err-limits
returns-in_err-limits c =
    let p = err_from_is_err_and c.from_residual.result c.from_residual.ensures.1 in
    rw (p.1, p.2) (new-limits _ _ _ _ c.limits.result _ c.in_err-limits.was c.limits.ensures)

pub long_enough-requires : goal.long_enough-requires
long_enough-requires c = (limits-within _ _ _ (sym c.in_ok-limits.ensures)).size_high

pub returns-then-not-long_enough : goal.returns-then-not-long_enough
returns-then-not-long_enough c =
    new-short _ _ _ _ (sym c.in_ok-limits.ensures) (sym c.long_enough.ensures ∙ c.if-not-long_enough.true)

pub page_count-requires : goal.page_count-requires
page_count-requires c = (limits-within _ _ _ (sym c.in_ok-limits.ensures)).size_high

pub overflow_mul-page_count : goal.overflow_mul-page_count
overflow_mul-page_count c = omega (arith, c.page_count.ensures, page-count-le c.args.window_size)

pub clear_words-requires : goal.clear_words-requires
clear_words-requires c =
    let long : LongEnough c.args.window_size _ _ _ _ = long-enough-is _ _ _ _ _ (sym c.long_enough.ensures ∙ c.if-not-long_enough.false) in
    omega (arith, c.page_count.ensures, long.pages_long)

pub block_count-requires : goal.block_count-requires
block_count-requires c = (limits-within _ _ _ (sym c.in_ok-limits.ensures)).size_high

pub clear_words-requires-2 : goal.clear_words-requires-2
clear_words-requires-2 c =
    let long : LongEnough c.args.window_size _ _ _ _ = long-enough-is _ _ _ _ _ (sym c.long_enough.ensures ∙ c.if-not-long_enough.false) in
    omega (arith, c.block_count.ensures, long.blocks_long)

pub returns : goal.returns
unfolding cleared
returns c =
    rw (c.clear_words.ensures, c.clear_words-2.ensures, c.page_count.ensures, c.block_count.ensures, c.fresh.ensures)
    (sym (new-made _ _ _ _ (sym c.in_ok-limits.ensures) (sym c.long_enough.ensures ∙ c.if-not-long_enough.false)))
