pub mod Cases
pub mod Decide
pub mod Casts
pub mod Holders
