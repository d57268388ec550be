pub mod Fields
pub mod Segments
pub mod Spans
pub mod FirstFault
pub mod Checks
pub mod Physical
pub mod Filling
pub mod Loading
