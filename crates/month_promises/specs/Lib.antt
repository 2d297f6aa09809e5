pub mod Shown
pub mod Streamed
pub mod Promise
pub mod Worked
