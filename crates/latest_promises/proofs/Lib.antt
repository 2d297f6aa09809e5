pub mod Answered
pub mod Refused
pub mod FreeWord
pub mod Bounds
pub mod Promise
pub mod Worked
