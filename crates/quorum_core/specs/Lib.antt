pub mod Committee
pub mod Seals
pub mod Signers
