-- A visit to a queue: one page more, one unit more, two visits against one (VisitLaws). The queue of a table: the values of a page
-- (ValueLaws), the pages from the cursor round (QueueLaws), and that a release is a visit to it (ReleaseLaws). Request S-14 of calls
-- and windows (TwoVisitsLaws); some of it computed (Examples).
pub mod VisitLaws
pub mod ValueLaws
pub mod QueueLaws
pub mod ReleaseLaws
pub mod TwoVisitsLaws
pub mod Examples
