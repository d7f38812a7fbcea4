pub mod Both
pub mod Brief
pub mod Least
pub mod Long
pub mod Objects
pub mod Twice
