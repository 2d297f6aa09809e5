pub mod InputWords
