pub mod Arrays
pub mod Each
pub mod Keys
pub mod OpLemmas
pub mod Readings
pub mod FileHolds
