mod Cases
pub mod Locks
mod Standing
mod Voting
pub mod Free
mod Forks
pub mod Holding
