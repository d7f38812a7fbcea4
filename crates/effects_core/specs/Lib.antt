pub mod Effects
pub mod Money
