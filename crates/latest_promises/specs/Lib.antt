pub mod Promise
pub mod Worked
