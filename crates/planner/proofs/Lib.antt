pub mod Days
pub mod Promise
