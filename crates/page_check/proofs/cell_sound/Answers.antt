-- Each end of the test is a law of CellLaws. Assumes nothing.
use native.Mathlib.Omega.{arith}
use Rattle.window.proofs.RefusalLaws.{wire-yes, wire-no}
use Rattle.page_check.proofs.CellLaws.{cell-wide, cell-elsewhere, cell-sparse, cell-dense}
use Rattle.page_check.proofs.cell_sound.Goals as goal

pub returns-then-not-is_wire_number : goal.returns-then-not-is_wire_number
returns-then-not-is_wire_number c = cell-wide _ _ _ _ _ _ (wire-no _ _ c.is_wire_number.ensures c.if-not-is_wire_number.true)

pub returns-then-position-page : goal.returns-then-position-page
returns-then-position-page c = cell-elsewhere _ _ _ _ _ _ _ c.position.ensures c.if-position-page.true

pub returns-then-kind-eq-SPARSE : goal.returns-then-kind-eq-SPARSE
returns-then-kind-eq-SPARSE c =
    cell-sparse _ _ _ _ _ _ (wire-yes _ _ c.is_wire_number.ensures c.if-not-is_wire_number.false)
    _ c.position.ensures c.if-position-page.false c.if-kind-eq-SPARSE.true

pub returns : goal.returns
returns c =
    cell-dense _ _ _ _ _ _ (wire-yes _ _ c.is_wire_number.ensures c.if-not-is_wire_number.false)
    _ c.position.ensures c.if-position-page.false c.if-kind-eq-SPARSE.false (omega arith) (omega arith)
