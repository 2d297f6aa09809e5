pub mod OutcomeLaws
pub mod Plans
pub mod Sound
pub mod Columns
pub mod Answered
