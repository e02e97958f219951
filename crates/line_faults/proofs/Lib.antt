-- For the proofs of this crate: how often a byte stands in a line, and which fault each test shows (FaultLaws). Beside them: what is
-- told of a line is so (CallLaws), and lines with each fault by computation (Examples).
pub mod FaultLaws
pub mod CallLaws
pub mod Examples
