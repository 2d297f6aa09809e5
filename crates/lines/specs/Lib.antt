pub mod Decimal
pub mod LineBytes
pub mod SignedFields
pub mod Added
pub mod Worked
