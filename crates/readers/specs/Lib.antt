pub mod Rules
pub mod Seconds
pub mod Times
pub mod Reads
pub mod Accepted
pub mod Settled
pub mod OneClass
pub mod OneDay
