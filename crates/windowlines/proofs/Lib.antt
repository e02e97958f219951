-- The line program.
pub mod RunLaws
