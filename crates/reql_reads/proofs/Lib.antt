pub mod Any
pub mod Inserted
