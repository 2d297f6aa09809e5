pub mod Vocabulary
pub mod Table
pub mod Promise
pub mod LaterStart
