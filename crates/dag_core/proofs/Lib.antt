pub mod Places
pub mod Listed
pub mod Fixed
pub mod Plain
pub mod PlanFacts
