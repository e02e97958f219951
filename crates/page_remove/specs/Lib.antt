-- A removal from a page: definitions (Remove), and what the functions promise (Promises).
pub mod Remove
pub mod Promises
