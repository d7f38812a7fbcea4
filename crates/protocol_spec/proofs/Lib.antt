pub mod ListLemmas
pub mod Truth
pub mod Equality
pub mod Executions
pub mod Checked
pub mod Gifts
