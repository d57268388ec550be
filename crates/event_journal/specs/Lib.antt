pub mod JournalView
pub mod Runs
pub mod RunCount
pub mod Counting
pub mod Steps
pub mod Parts
