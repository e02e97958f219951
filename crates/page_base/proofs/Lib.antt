-- Laws for callers: cells and parts (PartLaws), values in their places (PlaceLaws, StandLaws), reading and exchange (ReadLaws,
-- ExchangeLaws), the model's pages in the lent lists (DecodeLaws, LiveLaws). For the proofs of this crate: a part lent (LentPartLaws),
-- the search for a cell (FindLaws).
pub mod PartLaws
pub mod PlaceLaws
pub mod StandLaws
pub mod ReadLaws
pub mod ExchangeLaws
pub mod DecodeLaws
pub mod LiveLaws
pub mod LentPartLaws
pub mod FindLaws
