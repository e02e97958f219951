-- Laws for callers: whole blocks (EachLaws), pages of a block (InBlockLaws), a run of pages (RunLaws), the counts (CountedLaws). For
-- the proofs of this crate, over plain variables: values of a mask counted (CountLaws), pages of a block marked (MarkLaws), whole
-- blocks (BlockLaws), everything (AllLaws), a run (RunLoopLaws).
pub mod EachLaws
pub mod InBlockLaws
pub mod RunLaws
pub mod CountedLaws
pub mod CountLaws
pub mod MarkLaws
pub mod BlockLaws
pub mod AllLaws
pub mod RunLoopLaws
