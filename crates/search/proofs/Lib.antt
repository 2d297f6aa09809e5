pub mod Signs
pub mod Runs
pub mod Picked
pub mod Steps
pub mod Blocks
pub mod Ways
pub mod Searches
pub mod Planning
