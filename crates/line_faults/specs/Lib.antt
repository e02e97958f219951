-- What is wrong with a line that is no call (Faults), and how it is told (Messages).
pub mod Faults
pub mod Messages
