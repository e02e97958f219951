-- For the two calls, over plain variables: each way out meets the contract of every call and leaves its list as it must (WriteLaws,
-- ReadLaws).
pub mod LoopRules
pub mod WriteLaws
pub mod ReadLaws
