pub mod Shown
pub mod Steps
pub mod Places
pub mod Agreeing
pub mod Histories
pub mod Sends
