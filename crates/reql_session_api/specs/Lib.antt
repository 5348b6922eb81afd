pub mod Meant
pub mod World
