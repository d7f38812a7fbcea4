pub mod Equal
pub mod Objects
pub mod Transactions
pub mod Digests
pub mod Feeding
pub mod Long
