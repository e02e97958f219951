-- The line program on slices. Beside the laws: the line program run by computation (Examples).
pub mod KeptLaws
pub mod AnswerLaws
pub mod CommandLaws
pub mod PrintedLaws
pub mod InputLaws
pub mod NoteLaws
pub mod Examples
