pub mod ListWords
pub mod CheckWords
pub mod Taking
