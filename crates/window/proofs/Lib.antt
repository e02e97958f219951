-- Laws on memory (MemoryLaws), rows of words (WordListLaws), refusals (RefusalLaws), `new` (NewLaws); the test of the lengths,
-- for the proofs of this crate (LengthLaws); what is computed (Examples).
pub mod MemoryLaws
pub mod WordListLaws
pub mod RefusalLaws
pub mod NewLaws
pub mod Examples
pub mod LengthLaws
