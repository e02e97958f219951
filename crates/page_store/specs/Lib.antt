-- Bookkeeping for one changed page: what the functions promise.
pub mod Promises
