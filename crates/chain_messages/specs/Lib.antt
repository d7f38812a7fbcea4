pub mod Messages
pub mod Encoded
