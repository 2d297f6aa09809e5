pub mod Inserting
pub mod Sorting
pub mod Keyed
pub mod Ranking
