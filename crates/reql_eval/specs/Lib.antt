pub mod Taken
pub mod Bare
