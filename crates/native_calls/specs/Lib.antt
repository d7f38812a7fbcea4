pub mod Forms
pub mod Sites
