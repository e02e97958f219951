-- What is counted (ValueLaws), and that the clauses are all of `Sound` (ClauseLaws). For the proofs of this crate, over plain
-- variables: words (WordLaws), a page beside its block (MatchLaws), a page, a block and the header read from the
-- lists (PageLaws, BlockLaws, HeaderLaws), the whole state (StateLaws).
pub mod ValueLaws
pub mod ClauseLaws
pub mod WordLaws
pub mod MatchLaws
pub mod PageLaws
pub mod BlockLaws
pub mod HeaderLaws
pub mod StateLaws
