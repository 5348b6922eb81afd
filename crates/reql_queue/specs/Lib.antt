pub mod Queued
pub mod Record
pub mod Worked
