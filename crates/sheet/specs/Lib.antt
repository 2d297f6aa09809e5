pub mod Printing
pub mod Shown
pub mod FirstWords
pub mod Parts
