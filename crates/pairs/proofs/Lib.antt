pub mod Scans
pub mod Clashes
pub mod Columns
