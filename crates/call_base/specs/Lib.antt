-- What the calls share: answers (Answers), what `admits` tests (Admits), what a reading call is lent (Reading), reachable pages and
-- what an admitted call promises (Promises).
pub mod Answers
pub mod Admits
pub mod Reading
pub mod Promises
