pub mod Bound
pub mod Kinds
pub mod Ways
