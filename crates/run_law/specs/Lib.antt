pub mod Laws
pub mod Spellings
pub mod Canonical
pub mod Sayable
pub mod Made
pub mod TextLaws
pub mod HonestTexts
