-- What request S-5 claims of the two counts of demotions (Demotions).
pub mod Demotions
