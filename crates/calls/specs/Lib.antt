pub mod Answers
pub mod Planned
pub mod Calls
pub mod Lines
pub mod Days
