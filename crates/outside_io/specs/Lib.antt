pub mod Collected
pub mod Held
pub mod Pieces
pub mod Reading
pub mod Streams
pub mod System
pub mod Writing
