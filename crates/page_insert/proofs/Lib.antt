-- Laws for callers: the lowest cell not in use (FreeLaws), the cases of an insert (CaseLaws), one new value (PutLaws), promotion
-- (PromotionLaws), what an insert leaves (InsertLaws). For the proofs of this crate: cells spread (SpreadLaws).
pub mod FreeLaws
pub mod CaseLaws
pub mod PutLaws
pub mod PromotionLaws
pub mod InsertLaws
pub mod SpreadLaws
