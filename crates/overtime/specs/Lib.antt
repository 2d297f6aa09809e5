pub mod Choices
pub mod Best
