-- Block words and marks: definitions (Blocks, Marks), and what the functions promise (Promises).
pub mod Blocks
pub mod Marks
pub mod Promises
