pub mod Families
pub mod Pieces
pub mod Text
