-- The calls in numbers (Numbers), and the version of the library (Version).
pub mod Numbers
pub mod Version
