-- The window seen from its positions: definitions (Seen), laws on bookkeeping and one page or position replaced (SeenLaws), on marks
-- (MarkLaws), on a page released or revived (ReleaseLaws), on the calls that retire nothing (PointLaws), on how many pairs there are
-- (CountLaws) and a release over several pages (VisitLaws), on positions emptied value by value (SlotLaws), pages newly retired
-- (MoveLaws, RetireLaws) and ranges (RangeLaws), on everything retired (ClearLaws, ClearBoundedLaws), on every call (CallLaws), on
-- what a release costs (UnitLaws), on refusal 7 (AnswerLaws), and on states (StateLaws). Then what a window shows: weights of pairs (WeightLaws), of cells and positions
-- (CellLaws), and of what iter gives (IterLaws); each live pair at one position (OnceLaws);
-- what a sound state shows (ShowLaws); and demand 3 of the window itself (DemandLaws).
pub mod SeenLaws
pub mod MarkLaws
pub mod ReleaseLaws
pub mod PointLaws
pub mod CountLaws
pub mod VisitLaws
pub mod SlotLaws
pub mod MoveLaws
pub mod RetireLaws
pub mod RangeLaws
pub mod ClearLaws
pub mod ClearBoundedLaws
pub mod CallLaws
pub mod UnitLaws
pub mod AnswerLaws
pub mod StateLaws
pub mod WeightLaws
pub mod CellLaws
pub mod IterLaws
pub mod OnceLaws
pub mod ShowLaws
pub mod DemandLaws
