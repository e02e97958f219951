use Rattle.std.proofs.Common.{arith}
use Rattle.line_text.proofs.PrintLaws.{put_then}
use Rattle.line_output.proofs.LineLaws.{head-end, pairs_end, list-head}
use Rattle.line_output.proofs.RoomLaws.{room-there, with-room, room-for-both}
use Rattle.line_output.proofs.put_list.Goals as goal

pub overflow_cast-count : goal.overflow_cast-count
overflow_cast-count c = omega (arith, (room-there _ _ _ _ _ _ c.has_line_room.ensures c.if-not-has_line_room.false).few)

pub put_head-pairs-requires : goal.put_head-pairs-requires
put_head-pairs-requires c = omega (arith, (room-there _ _ _ _ _ _ c.has_line_room.ensures c.if-not-has_line_room.false).placed)

pub put_pairs-end-requires : goal.put_pairs-end-requires
put_pairs-end-requires c =
    let r = room-there _ _ _ _ _ _ c.has_line_room.ensures c.if-not-has_line_room.false in
    let h = c.put_head-pairs in
    (r.listed, c.if-values-count.false, omega (arith, r.placed, head-end _ _ _ _ _ _ _ h.ensures, h.auto.out))

pub put_byte-requires : goal.put_byte-requires
put_byte-requires c =
    let r = room-there _ _ _ _ _ _ c.has_line_room.ensures c.if-not-has_line_room.false in
    let v = c.put_pairs-end in
    let h = c.put_head-pairs in
    omega (arith, r.placed, head-end _ _ _ _ _ _ _ h.ensures, h.auto.out, pairs_end _ _ _ _ _ _ _ r.listed v.ensures, v.auto.out)

pub returns : goal.returns
returns c =
    let t = c.has_line_room.ensures in
    let l = c.if-not-has_line_room.false in
    with-room _ _ _ _ _ _ (room-for-both _ _ _ _ t l c.if-values-count.false)
    (put_then _ _ _ _ _ _ _ _ (list-head _ _ _ _ _ _ _ (room-there _ _ _ _ _ _ t l).listed c.put_head-pairs.ensures)
    (put_then _ _ _ _ _ _ _ _ c.put_pairs-end.ensures c.put_byte.ensures))
