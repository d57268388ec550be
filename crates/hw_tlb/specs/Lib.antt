pub mod Tlb
pub mod Lookup
pub mod Dropping
pub mod Filling
pub mod Counts
pub mod Rooms
