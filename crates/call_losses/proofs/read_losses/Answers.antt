-- Refused as admits says; for too few places; for a list of no set of losses; or else the bytes are written (ReadLaws). Assumes nothing.
use Rattle.std.proofs.Common.{sym, ◌∙◌, arith}
use Rattle.window.specs.Memory.{memory}
use Rattle.call_losses.proofs.WriteLaws.{range-low}
use Rattle.call_losses.proofs.ReadLaws.{read-refused, read_short, read-wrong, read_done}
use Rattle.call_losses.proofs.read_losses.Goals as goal

pub returns-in-Err : goal.returns-in-Err
returns-in-Err c =
    let s = c.args in
    read-refused s.first s.last s.words.now s.w (memory s.sequences.now s.values.now s.pages.now s.blocks.now) s.lost.now _ _ c.in-Err.ensures c.refuse.ensures

pub returns-then-lost-count : goal.returns-then-lost-count
returns-then-lost-count c =
    let s = c.args in
    read_short s.first s.last s.words.now s.w (memory s.sequences.now s.values.now s.pages.now s.blocks.now) s.lost.now c.in_default.ensures _ c.range_count-count.ensures _
    (omega arith) c.refuse-then-lost-count.ensures

pub is_loss_list-requires : goal.is_loss_list-requires
is_loss_list-requires c =
    let s = c.args in
    range-low s.first s.last s.w (memory s.sequences.now s.values.now s.pages.now s.blocks.now) _ c.range_count-count.ensures c.in_default.ensures

pub returns-then-not-is_loss_list : goal.returns-then-not-is_loss_list
returns-then-not-is_loss_list c =
    let s = c.args in
    read-wrong s.first s.last s.words.now s.w (memory s.sequences.now s.values.now s.pages.now s.blocks.now) s.lost.now c.in_default.ensures _ c.range_count-count.ensures _
    (omega arith) (sym c.is_loss_list.ensures ∙ c.if-not-is_loss_list.true) c.refuse-then-not-is_loss_list.ensures

pub put_flags-n-requires : goal.put_flags-n-requires
put_flags-n-requires c =
    let s = c.args in
    let low = range-low s.first s.last s.w (memory s.sequences.now s.values.now s.pages.now s.blocks.now) _ c.range_count-count.ensures c.in_default.ensures in
    (low.0, low.1, omega arith, sym c.is_loss_list.ensures ∙ c.if-not-is_loss_list.false)

pub returns : goal.returns
returns c =
    let s = c.args in
    read_done s.first s.last s.words.now s.w (memory s.sequences.now s.values.now s.pages.now s.blocks.now) s.lost.now c.in_default.ensures _ c.range_count-count.ensures _ _ _
    (omega arith) (sym c.is_loss_list.ensures ∙ c.if-not-is_loss_list.false) c.put_flags-n.ensures c.reply.ensures
