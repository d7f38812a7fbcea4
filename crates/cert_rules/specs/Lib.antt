pub mod Answers
pub mod Collect
pub mod Collecting
pub mod Parts
pub mod Finality
