-- Output lines: their bytes (Output), and what the functions leave (Promises).
pub mod Output
pub mod Promises
