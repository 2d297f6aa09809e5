pub mod Column
pub mod Laid
