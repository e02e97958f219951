-- The acknowledge point: what the functions promise (Promises).
pub mod Promises
