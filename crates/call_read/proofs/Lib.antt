-- Over plain variables, for the proofs of this crate: get (GetLaws), a search round (RoundLaws), the next reachable cell in a page
-- and in a block (PageCellLaws), and from block to block (CellLaws), iter (IterLaws), stranger in a stretch, in a range, and its answer
-- (StrangerLaws, RangeStrangerLaws, StrangerAnswerLaws).
pub mod GetLaws
pub mod RoundLaws
pub mod PageCellLaws
pub mod CellLaws
pub mod IterLaws
pub mod StrangerLaws
pub mod RangeStrangerLaws
pub mod StrangerAnswerLaws
