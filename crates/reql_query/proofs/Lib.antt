pub mod Lines
pub mod Short
