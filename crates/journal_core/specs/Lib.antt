pub mod Records
pub mod Encoded
