pub mod Ranked
pub mod Profiles
