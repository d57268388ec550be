pub mod ByPage
pub mod Zeros
