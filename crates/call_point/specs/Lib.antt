-- The calls on one sequence that write: what their steps promise.
pub mod Promises
