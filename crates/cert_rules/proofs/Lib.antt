pub mod Words
pub mod Agreement
pub mod Acking
pub mod Whole
