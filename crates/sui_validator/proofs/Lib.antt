pub mod Alone
pub mod Reading
pub mod Keeping
pub mod Opened
