pub mod Make
pub mod Parts
