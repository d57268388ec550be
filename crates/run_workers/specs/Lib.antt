pub mod WholeRecord
pub mod Working
pub mod Draining
pub mod Ending
pub mod Workers
pub mod Parts
pub mod Named
