pub mod Slots
pub mod Reading
pub mod Desks
