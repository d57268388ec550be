pub mod Seconds
pub mod Marks
