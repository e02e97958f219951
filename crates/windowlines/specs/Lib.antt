-- The line program: what a run keeps between its turns.
pub mod Run
