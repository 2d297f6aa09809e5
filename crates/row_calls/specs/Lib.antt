pub mod Places
pub mod Cited
