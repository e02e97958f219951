-- Over plain variables, for the proofs of this crate: values handed back (ReleaseLaws), a page made live again (ReviveLaws).
pub mod ReleaseLaws
pub mod ReviveLaws
