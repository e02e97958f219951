-- The call check: the clauses of a sound state as they are tested (Clauses), and what the tests promise (Promises).
pub mod Clauses
pub mod Promises
