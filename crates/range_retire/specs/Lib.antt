-- Values taken out by position, and ranges retired: what the functions compute (Slots, Spans), and what they promise (Promises).
pub mod Slots
pub mod Spans
pub mod Promises
