-- The marks of a set of losses (MarkLaws), what its list names (NameLaws), that reading mark by mark takes exactly such lists (ReadLaws),
-- and the same of words (WordLaws): what is stated of loss lists (LossLaws), and heads with equal live pairs (ReportLaws). For the loops:
-- what is left to write or to read (LoopLaws), what each turn keeps (TurnLaws). What is computed of the definitions (Examples).
pub mod MarkLaws
pub mod ReadLaws
pub mod WordLaws
pub mod NameLaws
pub mod LossLaws
pub mod ReportLaws
pub mod LoopLaws
pub mod TurnLaws
pub mod Examples
