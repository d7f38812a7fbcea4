pub mod Counts
pub mod Agreeing
pub mod Fitting
pub mod Moves
pub mod Calls
pub mod Laying
