pub mod Places
pub mod Taking
pub mod Choosing
