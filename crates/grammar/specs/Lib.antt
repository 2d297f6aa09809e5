pub mod Words
pub mod Books
pub mod FreeWord
