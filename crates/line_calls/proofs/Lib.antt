-- Laws for the proofs of this crate: the call of a letter (MakeLaws), the listing of live pairs (ListLaws).
pub mod MakeLaws
pub mod ListLaws
