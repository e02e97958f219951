-- What the functions promise (Promises).
pub mod Promises
