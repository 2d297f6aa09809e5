pub mod Tests
pub mod NearestMinute
