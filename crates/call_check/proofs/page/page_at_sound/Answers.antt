use Rattle.std.proofs.Common.{arith}
use Rattle.call_base.proofs.FitLaws.{page-bounds}
use Rattle.call_check.proofs.page.page_at_sound.Goals as goal

pub page_words-words-requires : goal.page_words-words-requires
page_words-words-requires c = let p = page-bounds c.args.w.window_size c.args.page c.requires.2 in (p.page-fits, omega arith)
