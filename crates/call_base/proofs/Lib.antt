-- How a call is shown to meet the contract of every call (MeetsLaws), where pages lie (FitLaws), reachable pages (ReachLaws), the count
-- of a range (RangeLaws). For the proofs of this crate: a retired page (RetiredLaws), arguments tested (ArgumentLaws).
pub mod MeetsLaws
pub mod FitLaws
pub mod ReachLaws
pub mod RangeLaws
pub mod RetiredLaws
pub mod ArgumentLaws
pub mod ReadingLaws
