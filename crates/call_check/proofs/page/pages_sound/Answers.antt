use borrow.Author.Count.{below_more}
use Rattle.call_check.proofs.page.pages_sound.Goals as goal

pub loop-page-preserved : goal.loop-page-preserved
loop-page-preserved c = λ vs. below_more _ _ (c.loop-page.invariant vs) ((c.page_at_sound.ensures.is vs).holds c.if-not-page_at_sound.false)
