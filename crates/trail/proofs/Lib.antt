pub mod TrailWords
pub mod Trails
pub mod Coming
pub mod Resumed
