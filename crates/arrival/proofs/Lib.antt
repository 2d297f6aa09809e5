pub mod Following
pub mod Orders
pub mod Arrived
