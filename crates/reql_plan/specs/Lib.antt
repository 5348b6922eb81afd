pub mod Chosen
pub mod Moved
