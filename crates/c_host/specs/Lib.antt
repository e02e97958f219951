-- Outcomes in numbers.
pub mod Outcomes
