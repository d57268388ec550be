pub mod CellUse
pub mod Counters
pub mod Events
