-- No store, one or two, as the run has words (LoopLaws). Assumes nothing.
use native.Mathlib.Omega.{arith}
use Rattle.laws_losses.proofs.LoopLaws.{put-none, put_one, put_both}
use Rattle.loss_list.proofs.put_run.Goals as goal

pub returns-then-length-eq0-clause-words_after : goal.returns-then-length-eq0-clause-words_after
returns-then-length-eq0-clause-words_after c = let s = c.args in (put-none s.words.now s.at s.first s.start s.length c.if-length-eq0.true).1

pub returns-then-length-eq1-clause-words_after : goal.returns-then-length-eq1-clause-words_after
returns-then-length-eq1-clause-words_after c =
    let s = c.args in
    (put_one s.words.now s.at s.first s.start s.length _ c.if-length-eq1.true c.first_word.ensures).1

pub returns-clause-words_after : goal.returns-clause-words_after
returns-clause-words_after c =
    let s = c.args in
    (put_both s.words.now s.at s.first s.start s.length _ _ (omega arith) c.first_word.ensures c.sequence_at.ensures).1
