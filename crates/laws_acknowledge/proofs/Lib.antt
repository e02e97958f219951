-- Distances from a base and positions (DistanceLaws); the advance, and the point by it (AdvanceLaws). Which sequences are live after a
-- call (LiveLaws), and the point after insert, exchange and remove (IncrementLaws), after remove_range (RangeLaws), and with the base
-- moved (BaseLaws). A live sequence is one of a range's or a stranger of it (OwnLaws). Some of it computed (Examples).
pub mod DistanceLaws
pub mod OwnLaws
pub mod AdvanceLaws
pub mod LiveLaws
pub mod IncrementLaws
pub mod RangeLaws
pub mod BaseLaws
pub mod Examples
pub mod WindowLaws
