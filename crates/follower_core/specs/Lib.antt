pub mod Followed
pub mod Courses
pub mod Following
pub mod Ledgers
pub mod Steps
pub mod Catching
