pub mod LeftRows
pub mod Plain
pub mod Gathering
pub mod CanPlan
