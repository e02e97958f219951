-- Refused as admits says; for too few places, by what was counted; or else the list is written (WriteLaws). Assumes nothing.
use Rattle.std.proofs.Common.{◌≤◌, length, refl, arith}
use Rattle.window.specs.Memory.{memory}
use Rattle.model.specs.Losses.{most_words_of}
use Rattle.call_losses.specs.Promises.{seen_list}
use Rattle.call_losses.proofs.WriteLaws.{range-lent, range-few, most-fit, write-refused, write-short, write_done}
use Rattle.call_losses.proofs.write_losses.Goals as goal
use Rattle.call_losses.proofs.write_losses.Goals.{then-words-most_words+else-words-count_words, else-words-most_words}

pub returns-in-Err : goal.returns-in-Err
returns-in-Err c =
    let s = c.args in
    write-refused s.first s.last s.w (memory s.sequences.now s.values.now s.pages.now s.blocks.now) _ refl s.words.now _ _ c.in-Err.ensures c.refuse.ensures

pub count_words-requires : goal.count_words-requires
count_words-requires c =
    let s = c.args in
    let m = memory s.sequences.now s.values.now s.pages.now s.blocks.now in
    let r = c.range_count-count.ensures in
    (range-lent s.first s.last s.w m _ r c.in_default.ensures, range-few s.first s.last s.w m _ r c.in_default.ensures)

pub returns-then-words-count_words : goal.returns-then-words-count_words
returns-then-words-count_words c =
    let s = c.args in
    write-short s.first s.last s.w (memory s.sequences.now s.values.now s.pages.now s.blocks.now) _ c.range_count-count.ensures s.words.now c.in_default.ensures _
    (omega (arith, c.count_words.ensures)) c.refuse-then-words-count_words.ensures

pub put_losses-n-requires : goal.put_losses-n-requires
put_losses-n-requires c =
    let s = c.args in
    let m = memory s.sequences.now s.values.now s.pages.now s.blocks.now in
    let r = c.range_count-count.ensures in
    let room : length (seen_list s.w s.sequences.now s.pages.now s.blocks.now s.first c.range_count-count.result) ≤ length s.words.now =
    elim c.if-words-most_words.branch [
      | then-words-most_words+else-words-count_words w ↦ omega (arith, w.count_words.ensures)
      | else-words-most_words w ↦ most-fit s.first s.last s.w m _ r _ (omega (arith, c.most_words.ensures))
    ] in
    (range-lent s.first s.last s.w m _ r c.in_default.ensures, range-few s.first s.last s.w m _ r c.in_default.ensures, room)

pub overflow_cast-n : goal.overflow_cast-n
overflow_cast-n c =
    let s = c.args in
    let n = c.range_count-count.result in
    omega (arith, c.put_losses-n.ensures.number, most-fit s.first s.last s.w (memory s.sequences.now s.values.now s.pages.now s.blocks.now) n c.range_count-count.ensures (most_words_of n) (omega arith))

pub returns : goal.returns
returns c =
    let s = c.args in
    write_done s.first s.last s.w (memory s.sequences.now s.values.now s.pages.now s.blocks.now) _ c.range_count-count.ensures s.words.now c.in_default.ensures _ _ _
    c.put_losses-n.auto.words c.put_losses-n.ensures c.reply.ensures
