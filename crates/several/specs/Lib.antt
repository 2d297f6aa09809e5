pub mod Ready
pub mod Calls
pub mod Answers
