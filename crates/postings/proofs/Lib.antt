pub mod Entries
pub mod Orders
