pub mod Pairs
pub mod Columns
pub mod Clashes
