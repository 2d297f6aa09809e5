pub mod Answers
pub mod History
pub mod Table
pub mod Promise
pub mod LaterStart
pub mod Worked
