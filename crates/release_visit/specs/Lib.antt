-- Releases over several pages: what the functions promise.
pub mod Promises
