pub mod Outcomes
pub mod Columns
