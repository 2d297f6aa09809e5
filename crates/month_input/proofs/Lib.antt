pub mod Cuts
pub mod Slides
pub mod Bytes
pub mod WrittenMonth
pub mod Windows
