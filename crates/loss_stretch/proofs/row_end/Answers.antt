-- In either branch the end is past the slot (end-alike). Assumes nothing.
use Rattle.std.proofs.Common.{◌≡◌, arith}
use Rattle.std.proofs.lemmas.Grind.{common_steps}
use Rattle.loss_stretch.specs.Promises.{row_end_of}
use Rattle.loss_stretch.proofs.RowLaws.{end-alike}
use Rattle.loss_stretch.proofs.row_end.Goals as goal

pub returns-then-bit-clause-within : goal.returns-then-bit-clause-within
returns-then-bit-clause-within c =
    let s = c.args in
    let e : c.lowest.result ≡ row_end_of s.mask s.slot = grind (arith, common_steps) in
    let a = end-alike s.mask s.slot c.lowest.result (omega arith) c.requires e in (a.0, a.1)

pub returns-clause-within : goal.returns-clause-within
returns-clause-within c =
    let s = c.args in
    let e : c.lowest-2.result ≡ row_end_of s.mask s.slot = grind (arith, common_steps) in
    let a = end-alike s.mask s.slot c.lowest-2.result (omega arith) c.requires e in (a.0, a.1)
