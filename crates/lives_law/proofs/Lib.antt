mod Voting
mod Along
mod Shut
mod Standing
mod Owned
mod Reading
mod Fitting
mod Back
pub mod OnFiles
pub mod Held
