pub mod Streamed
pub mod Days
pub mod Promise
