-- The queue of values that wait for release and what a visit does to it (Queue); what request S-14 claims (TwoVisits).
pub mod Queue
pub mod TwoVisits
