pub mod Postings
pub mod Days
