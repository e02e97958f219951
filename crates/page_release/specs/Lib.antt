-- Values of a page handed back: what the functions promise.
pub mod Promises
