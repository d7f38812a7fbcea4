pub mod ListWords
pub mod CheckWords
pub mod Words
pub mod Parsing
