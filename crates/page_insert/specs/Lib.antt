-- An insert into a page: what its steps give (Insert), and what the functions promise (Promises).
pub mod Insert
pub mod Promises
