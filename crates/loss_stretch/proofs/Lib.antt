-- On a sound window the sequences that are seen live are the live ones (SeenLaws, for callers); the mask of a row and its stretches
-- (RowLaws).
pub mod SeenLaws
pub mod RowLaws
