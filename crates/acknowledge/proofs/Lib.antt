-- For callers: that the lists are long enough (LentLaws). For the proofs of this crate, over plain variables: the live sequences of one
-- page (RunLaws), the advance page by page (StepLaws), the positions of a range from the base on (CoverLaws), the point after each call
-- by the tests of the code (PointLaws).
pub mod LentLaws
pub mod RunLaws
pub mod StepLaws
pub mod CoverLaws
pub mod PointLaws
pub mod ActLaws
