-- Pages and blocks retired by marks: what the functions compute (Retire), and what they promise (Promises).
pub mod Retire
pub mod Promises
