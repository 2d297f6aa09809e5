pub mod Tests
pub mod Tables
pub mod Reached
pub mod Whole
pub mod Readings
