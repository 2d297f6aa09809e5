pub mod DayResults
pub mod Lasting
