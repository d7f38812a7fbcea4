pub mod Crash
pub mod Disk
pub mod Keeping
pub mod Log
pub mod Memory
pub mod Records
pub mod Running
pub mod SeenLaws
