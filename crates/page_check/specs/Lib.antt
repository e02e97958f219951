-- Whether a page is sound: what the functions promise.
pub mod Promises
