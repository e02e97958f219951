-- For the proofs of this crate: a field's digits (FieldLaws), bytes in parts (PartLaws), a line's
-- parts (LineLaws), lines that are too long (LongLaws), the loop over a line's fields (LoopLaws), bytes put and the digits of a number
-- (PrintLaws).
pub mod FieldLaws
pub mod PartLaws
pub mod LineLaws
pub mod LongLaws
pub mod LoopLaws
pub mod PrintLaws
