-- What callers read of a release (ReleasedLaws). For the proofs of this crate, over plain variables: the next retired page
-- (NextRetiredLaws), a visit (VisitLaws), clear_bounded's release (BoundedLaws).
pub mod ReleasedLaws
pub mod NextRetiredLaws
pub mod VisitLaws
pub mod BoundedLaws
