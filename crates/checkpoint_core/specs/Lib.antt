pub mod Checkpoints
pub mod Links
