pub mod Numbered
pub mod Kept
pub mod Lower
pub mod Lots
pub mod Cells
