pub mod Body
pub mod Ending
