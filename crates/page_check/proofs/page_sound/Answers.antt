-- A page of kind 0 is sound if nothing is in use (none-decides). Assumes nothing.
use Rattle.std.proofs.Common.{arith}
use Rattle.page_check.proofs.PageLaws.{none-decides}
use Rattle.page_check.proofs.page_sound.Goals as goal

pub returns-then-words-eq0 : goal.returns-then-words-eq0
returns-then-words-eq0 c = record { is = λ vs. none-decides _ _ _ _ _ vs (omega arith) (omega arith) (omega arith) (omega arith) }
