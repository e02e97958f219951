-- Demand 3 over positions, and of any head that refines them: sums (SumLaws), the parts of a call (DrainLaws, ReleaseLaws, UnitLaws,
-- SweepLaws), each call (KeepLaws), whole histories (HistoryLaws), heads (HeadLaws); the order of refusals (RefusalLaws), stranger
-- (StrangerLaws), `new` (NewLaws), and what is computed (Examples).
pub mod StrangerLaws
pub mod SumLaws
pub mod DrainLaws
pub mod ReleaseLaws
pub mod UnitLaws
pub mod SweepLaws
pub mod KeepLaws
pub mod HistoryLaws
pub mod HeadLaws
pub mod RefusalLaws
pub mod NewLaws
pub mod Examples
