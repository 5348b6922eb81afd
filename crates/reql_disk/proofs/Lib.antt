pub mod Crashes
pub mod Taking
mod Pushes
