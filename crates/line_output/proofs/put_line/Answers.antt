use Rattle.std.proofs.Common.{arith}
use Rattle.line_output.proofs.LineLaws.{head-end, values-end}
use Rattle.line_output.proofs.RoomLaws.{room-there}
use Rattle.line_output.proofs.put_line.Goals as goal

pub put_head-values-requires : goal.put_head-values-requires
put_head-values-requires c = omega (arith, (room-there _ _ _ _ _ _ c.has_line_room.ensures c.if-not-has_line_room.false).placed)

pub put_values-end-requires : goal.put_values-end-requires
put_values-end-requires c =
    let r = room-there _ _ _ _ _ _ c.has_line_room.ensures c.if-not-has_line_room.false in
    let h = c.put_head-values in
    (r.listed, omega (arith, r.placed, head-end _ _ _ _ _ _ _ h.ensures, h.auto.out))

pub put_byte-requires : goal.put_byte-requires
put_byte-requires c =
    let r = room-there _ _ _ _ _ _ c.has_line_room.ensures c.if-not-has_line_room.false in
    let v = c.put_values-end in
    let h = c.put_head-values in
    omega (arith, r.placed, head-end _ _ _ _ _ _ _ h.ensures, h.auto.out, values-end _ _ _ _ _ _ r.listed v.ensures, v.auto.out)
