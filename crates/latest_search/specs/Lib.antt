pub mod Found
pub mod Halvings
