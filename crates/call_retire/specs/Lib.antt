-- The calls that retire and release: their outcome (Finish), and a range retired before its release (Range).
pub mod Finish
pub mod Range
