pub mod IndexLemmas
pub mod Overlays
pub mod Parts
