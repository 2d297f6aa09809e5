pub mod Idle
pub mod Days
