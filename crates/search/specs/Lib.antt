pub mod Taking
pub mod Searched
pub mod Ways
