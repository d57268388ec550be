pub mod Leading
pub mod Ops
pub mod Pages
