pub mod Sorting
pub mod Owing
pub mod Tasks
pub mod Few
pub mod Joins
pub mod Sweeps
pub mod Counts
