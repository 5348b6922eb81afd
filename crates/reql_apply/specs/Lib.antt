pub mod Kinds
pub mod Wrapped
