pub mod Table
pub mod Promise
pub mod Worked
