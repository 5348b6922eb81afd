pub mod Chained
pub mod Members
pub mod Operators
pub mod Rules
