pub mod Bits
pub mod Standing
