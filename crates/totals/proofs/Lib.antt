pub mod Levels
pub mod Report
pub mod Mean
pub mod Held
