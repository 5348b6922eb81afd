pub mod Spelling
pub mod Columns
pub mod Names
