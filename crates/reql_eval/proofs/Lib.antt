pub mod Terms
pub mod Ways
