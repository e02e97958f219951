-- A sound window stays sound. What a change of one page is (Change); laws on sums (SumLaws), on what pages count (PageLaws) and on
-- changes (ChangeLaws, PutLaws); each step (ExchangeRemoveLaws, SplitLaws, ReleaseLaws, ReviveLaws, InsertLaws), a state
-- read as a window (ProperLaws), releases over several pages (VisitLaws), bounds on the counts (BoundLaws), what steps
-- leave of the header (KeptLaws) and the limits that stay (LimitLaws). What
-- retiring changes (Retire), and the window that it leaves (RetireLaws): by position (RetireSlotLaws), in a block (RetireInLaws,
-- RetireBlockLaws), over a range or everything (RetireRangeLaws); the release after it (RetireReleaseLaws) and how many values it
-- returns (RetireCountLaws). All calls (CallLaws).
pub mod SumLaws
pub mod PageLaws
pub mod ChangeLaws
pub mod PutLaws
pub mod ExchangeRemoveLaws
pub mod SplitLaws
pub mod ReleaseLaws
pub mod ReviveLaws
pub mod InsertLaws
pub mod KeptLaws
pub mod LimitLaws
pub mod ProperLaws
pub mod BoundLaws
pub mod VisitLaws
pub mod RetireLaws
pub mod RetireSlotLaws
pub mod RetireInLaws
pub mod RetireBlockLaws
pub mod RetireRangeLaws
pub mod RetireReleaseLaws
pub mod RetireCountLaws
pub mod CallLaws
