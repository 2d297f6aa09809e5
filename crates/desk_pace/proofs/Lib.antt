pub mod LeftTests
pub mod PaceLaws
pub mod Repaced
pub mod Agreed
