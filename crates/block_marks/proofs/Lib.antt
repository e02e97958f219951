-- Laws for callers: a block read from its words (BlockLaws), its marks (MarkLaws). For the proofs of this crate: a page noted in the
-- header and in its block (ChangeLaws), words as masks (MaskLaws).
pub mod BlockLaws
pub mod MarkLaws
pub mod ChangeLaws
pub mod MaskLaws
