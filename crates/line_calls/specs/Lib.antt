-- The call that a line makes (Calls), and the listing of live pairs (List).
pub mod Calls
pub mod List
