mod Parts
mod Counts
mod Ranges
mod Named
mod Steps
mod Turned
mod Rising
mod Filing
mod Listed
mod Coming
mod Owned
pub mod Given
pub mod Sends
