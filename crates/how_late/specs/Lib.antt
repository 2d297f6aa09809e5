pub mod Latest
pub mod Laws
