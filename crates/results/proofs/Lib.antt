pub mod ResultWords
pub mod Beating
