pub mod Days
pub mod Held
