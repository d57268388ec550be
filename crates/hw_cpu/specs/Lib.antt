pub mod KeptPages
pub mod Runs
pub mod Site
pub mod Steps
