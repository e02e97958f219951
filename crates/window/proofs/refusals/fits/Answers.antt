-- The test of the header's three numbers is the definition's first, that of the lengths its second. Assumes nothing.
use Rattle.std.proofs.Common.{sym, ◌∙◌}
use borrow.Author.Tests.{ne_eqb}
use Rattle.window.specs.Refusals.{limits, fits}
use Rattle.window.proofs.RefusalLaws.{passes, fails, limits-within}
use Rattle.window.proofs.refusals.fits.Goals as goal

pub long_enough-requires : goal.long_enough-requires
long_enough-requires c =
    (limits-within _ _ _ (sym c.limits.ensures ∙ passes c.limits.result (sym c.is_ok.ensures.value ∙ c.if-is_ok.true))).size_high

pub returns-then-is_ok : goal.returns-then-is_ok
unfolding fits
returns-then-is_ok c =
    rw (sym c.limits.ensures ∙ passes c.limits.result (sym c.is_ok.ensures.value ∙ c.if-is_ok.true)) c.long_enough.ensures

pub returns-else-is_ok : goal.returns-else-is_ok
unfolding fits
returns-else-is_ok c =
    let w = c.args.w in
    rw (
      c.if-is_ok.false,
      ne_eqb (limits w.window_size w.n w.demote_at) 0
          (λ e. fails c.limits.result (sym c.is_ok.ensures.value ∙ c.if-is_ok.false) (c.limits.ensures ∙ e)),
    )
