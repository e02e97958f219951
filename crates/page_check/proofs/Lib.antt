-- Deciding (DecideLaws). For the proofs of this crate: one cell (CellLaws), the loop over the cells in use (CellLoopLaws), a page
-- (PageLaws).
pub mod DecideLaws
pub mod CellLaws
pub mod CellLoopLaws
pub mod PageLaws
