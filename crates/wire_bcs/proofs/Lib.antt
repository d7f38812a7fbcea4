pub mod Numbers
pub mod Ulebs
pub mod Texts
pub mod Loops
pub mod Decoding
pub mod InOrder
pub mod Between
