-- Loss lists (request S-4) as their proofs have them: words as marks at distances (Marks), a list read word by word (Reading), what holds at
-- each turn of the loops that write and read (Loops). What one has to believe of loss lists is in the model.
pub mod Marks
pub mod Reading
pub mod Loops
