pub mod ListLemmas
pub mod Standing
pub mod Moves
pub mod Blanks
pub mod Places
pub mod Gathering
pub mod Crossing
