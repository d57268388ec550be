pub mod Pages
pub mod Choices
