pub mod Acting
pub mod Steps
