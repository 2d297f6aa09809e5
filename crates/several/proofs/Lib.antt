pub mod Days
pub mod Outcomes
