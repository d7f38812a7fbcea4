pub mod Shorts
pub mod Certifying
pub mod Walking
pub mod Sealing
pub mod Judging
pub mod Saying
