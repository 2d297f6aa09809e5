pub mod FirstWords
pub mod Naming
pub mod Standing
pub mod Choosing
pub mod Plans
