pub mod Halvings
pub mod Found
pub mod Given
