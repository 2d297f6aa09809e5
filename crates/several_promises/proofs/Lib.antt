pub mod Books
pub mod Answered
pub mod Refused
pub mod Promise
