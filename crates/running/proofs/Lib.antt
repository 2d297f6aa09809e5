pub mod Fits
pub mod Left
pub mod Puts
pub mod Starts
pub mod Moves
