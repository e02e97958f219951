-- Over plain variables, for the proofs of this crate: one page written (WrittenLaws), the page of a sequence (ReachLaws), exchange
-- (ExchangeLaws), what was done to a page kept in the lists (KeepLaws), remove (RemoveLaws), insert into a live page (LiveInsertLaws),
-- into a retired one (ReviveLaws), its two ways (InsertLaws), the whole (EnterLaws); the point and the base after each call
-- (AcknowledgeLaws).
pub mod WrittenLaws
pub mod ReachLaws
pub mod ExchangeLaws
pub mod KeepLaws
pub mod RemoveLaws
pub mod LiveInsertLaws
pub mod ReviveLaws
pub mod InsertLaws
pub mod EnterLaws
pub mod AcknowledgeLaws
