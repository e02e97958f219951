-- The window seen from its positions.
pub mod Seen
