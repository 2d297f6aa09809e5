pub mod Rows
pub mod Book
pub mod Tables
