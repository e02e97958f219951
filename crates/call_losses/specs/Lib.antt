-- The contracts of the two calls (Reports), and what the inner functions promise (Promises).
pub mod Reports
pub mod Promises
