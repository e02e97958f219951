-- One page: definitions (Page), and what the functions promise (Promises).
pub mod Page
pub mod Promises
