-- Definitions and statements, in reading order: the calls, a row for each of them, the plain table, the acknowledge point, demand 3; then the
-- window seen from its positions, what a head owes so that demand 3 holds of it, and runs for examples. No proofs: those are in proofs/.
pub mod Calls
pub mod Roles
pub mod Sequences
pub mod Losses
pub mod Table
pub mod Point
pub mod Demand3
pub mod Window
pub mod Pages
pub mod Steps
pub mod Sound
pub mod Contract
pub mod Heads
pub mod Positions
pub mod Refinement
pub mod Strangers
pub mod Reports
pub mod Runs
