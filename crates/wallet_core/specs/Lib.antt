pub mod Lengths
pub mod Gathering
