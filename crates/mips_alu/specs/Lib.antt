pub mod Execution
pub mod Result
