pub mod Rising
pub mod Steps
pub mod Symbols
pub mod Zones
pub mod Names
pub mod Back
pub mod Shown
