pub mod Margins
pub mod NearestMinute
pub mod Due
pub mod RowWords
pub mod Cited
