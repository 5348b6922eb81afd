pub mod Heard
pub mod Keeps
