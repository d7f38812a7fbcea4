-- Votes, admission, execution, checkpoints, and a member of its records.
pub mod Versions
pub mod Votes
pub mod Admission
pub mod Sequence
pub mod Sequential
pub mod Rounds
pub mod Checkpoints
pub mod Member
pub mod Calls
pub mod Replay
pub mod Due
