pub mod Short
pub mod Fit
