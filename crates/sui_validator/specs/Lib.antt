pub mod Journals
pub mod Members
