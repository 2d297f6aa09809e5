pub mod Greatest
pub mod Latest
pub mod SameJobs
