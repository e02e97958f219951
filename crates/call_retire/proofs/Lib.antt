-- Over plain variables, for the proofs of this crate: a call finished (FinishLaws), release_retired (ReleaseLaws), clear and
-- clear_bounded (ClearLaws), remove_range (RemoveRangeLaws), what each does once admitted (DoesLaws), the point after each (AcknowledgeLaws).
pub mod FinishLaws
pub mod ReleaseLaws
pub mod ClearLaws
pub mod RemoveRangeLaws
pub mod DoesLaws
pub mod AcknowledgeLaws
