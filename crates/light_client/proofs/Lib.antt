pub mod Among
pub mod Certified
pub mod Votes
pub mod Final
pub mod Rows
