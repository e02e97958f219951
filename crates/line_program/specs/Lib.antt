-- The line program: what it prints for its input (Program), what is noted of its lines (Notes), and what its functions leave (Promises).
pub mod Program
pub mod Notes
pub mod Promises
