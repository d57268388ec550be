pub mod Changes
pub mod Counting
pub mod Histories
pub mod Using
