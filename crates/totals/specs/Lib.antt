pub mod Report
pub mod Mean
pub mod Held
