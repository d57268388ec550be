pub mod PlaceCodes
pub mod Encoding
