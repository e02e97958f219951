-- The header, the lent memory, the refusals and `new`.
pub mod Memory
pub mod Refusals
pub mod Lent
pub mod New
