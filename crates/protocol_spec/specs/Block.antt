-- Commands and natives, and the execution of a transaction.
pub mod Natives
pub mod Block
pub mod Commands
pub mod Execution
