pub mod Deck
pub mod Hands
pub mod Steals
