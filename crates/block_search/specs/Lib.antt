-- Searches by the masks: what they look for (Search), and what the walk promises (Promises).
pub mod Search
pub mod Promises
