pub mod Standing
pub mod Starts
pub mod Paces
pub mod Memory
pub mod Histories
pub mod Refused
pub mod Promise
pub mod LaterStart
