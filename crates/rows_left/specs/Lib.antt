pub mod Left
pub mod Gathered
