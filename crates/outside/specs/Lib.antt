pub mod Causes
pub mod Turns
pub mod Lists
pub mod Fakes
pub mod Streams
