pub mod Planning
pub mod Outcomes
pub mod Plannable
