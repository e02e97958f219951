-- The bits of a word.
pub mod First
pub mod Word
