pub mod Adding
pub mod Digits
pub mod Signed
