mod Lists
mod Held
mod Newest
mod Putting
mod Executions
mod Kept
mod Places
mod News
mod Makers
mod Reverted
mod Merging
mod Rows
pub mod Based
mod Ascending
mod Turned
mod Opened
pub mod Openings
mod OpeningLists
