-- The reading calls: what their steps promise.
pub mod Promises
