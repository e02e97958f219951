-- A page that becomes sparse, and the pages of a window that do (SparseLaws); what a range makes of the second count (RangeLaws); the
-- counts after each call, and request S-5 (DemotionLaws).
pub mod SparseLaws
pub mod RangeLaws
pub mod DemotionLaws
