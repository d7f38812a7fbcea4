pub mod Input
pub mod Accepted
pub mod Chains
pub mod Digests
pub mod Certificates
pub mod Blaming
pub mod Finality
pub mod Listing
