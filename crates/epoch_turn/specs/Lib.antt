pub mod Chains
pub mod Dues
pub mod Ends
pub mod Kept
pub mod Openings
