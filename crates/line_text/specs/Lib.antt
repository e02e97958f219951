-- Lines of text: how a field is written (Fields), what a line says (Lines), how numbers stand in an output line (Output), and what the
-- functions give (PrintContracts, Contracts).
pub mod Fields
pub mod Lines
pub mod Output
pub mod PrintContracts
pub mod Promises
