pub mod Locks
pub mod Answers
