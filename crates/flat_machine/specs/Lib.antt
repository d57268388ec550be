pub mod FlatView
pub mod Attempts
pub mod Windows
pub mod Stretches
pub mod Parts
