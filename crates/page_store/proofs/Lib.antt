-- What the lists then read as (StoreLaws). For the proofs of this crate: one change after another (ComposeLaws).
pub mod StoreLaws
pub mod ComposeLaws
