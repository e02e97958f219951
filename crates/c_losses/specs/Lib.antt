-- The contracts of the two calls in numbers (Promises).
pub mod Promises
