pub mod Parts
pub mod Numbers
