pub mod Puts
pub mod OpenedWords
pub mod OpenCall
