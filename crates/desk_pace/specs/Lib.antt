pub mod Paces
pub mod Gathered
