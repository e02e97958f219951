-- Laws for callers: the set bit of a number (NthLaws), what stands at each position (StandLaws), removal and exchange (RemoveLaws),
-- draining (DrainLaws), the return list (WroteLaws). For the proofs of this crate: cells packed (PackLaws), a page settled
-- (SettleLaws), the loop that drains (DrainLoopLaws), a dense page drained by position (DenseLaws), positions
-- in a row together (RunLaws).
pub mod NthLaws
pub mod StandLaws
pub mod RemoveLaws
pub mod DrainLaws
pub mod WroteLaws
pub mod PackLaws
pub mod SettleLaws
pub mod DrainLoopLaws
pub mod DenseLaws
pub mod RunLaws
