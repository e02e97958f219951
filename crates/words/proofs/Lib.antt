-- Laws on cases of a test (CaseLaws), on searches (FirstLaws), on bits, changes, counts, spans, the lowest bit and the word
-- without it, words and tests (BitLaws, ChangeLaws, CountLaws, SpanLaws, LowestLaws, TakeLaws, WordLaws, TestLaws); what is computed (Examples).
pub mod CaseLaws
pub mod FirstLaws
pub mod BitLaws
pub mod ChangeLaws
pub mod CountLaws
pub mod SpanLaws
pub mod LowestLaws
pub mod TakeLaws
pub mod WordLaws
pub mod TestLaws
pub mod Examples
