pub mod Chains
pub mod Certified
pub mod Causes
pub mod Found
pub mod Making
pub mod Blamed
pub mod Verdicts
pub mod Said
