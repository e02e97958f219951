-- Laws for callers: what a search looks for (SearchLaws), what a walk finds (WalkLaws). For the proofs of this crate: a block's words
-- (SelectLaws), the loops (SearchLoopLaws, WalkLoopLaws).
pub mod SearchLaws
pub mod WalkLaws
pub mod SelectLaws
pub mod SearchLoopLaws
pub mod WalkLoopLaws
