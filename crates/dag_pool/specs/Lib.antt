pub mod Outputs
pub mod Work
pub mod Crews
