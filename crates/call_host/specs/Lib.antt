-- What a call with a lent header leaves.
pub mod Lent
