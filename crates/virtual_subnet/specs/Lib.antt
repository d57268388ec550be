pub mod Offering
pub mod Accepting
