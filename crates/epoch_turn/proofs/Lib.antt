pub mod Behind
mod Building
mod Counting
pub mod Fronts
pub mod Growing
mod Marking
pub mod Staying
pub mod Told
pub mod Renewing
