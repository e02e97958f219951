-- What a range performs (PerformLaws), which positions hold a live value afterwards (LiveLaws, ClearLaws), how many are removed
-- (HeldLaws). For the proofs of this crate, over plain variables: values taken out of a page (TakeLaws), a stretch (SpanLaws), a range
-- (RangeLaws).
pub mod PerformLaws
pub mod LiveLaws
pub mod ClearLaws
pub mod HeldLaws
pub mod TakeLaws
pub mod SpanLaws
pub mod RangeLaws
