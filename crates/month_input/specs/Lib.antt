pub mod Layout
pub mod WrittenMonth
pub mod Windows
