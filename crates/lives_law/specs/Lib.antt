pub mod Lives
pub mod Certified
pub mod Files
