pub mod Agree
pub mod Each
pub mod NameLists
pub mod Splits
pub mod Values
