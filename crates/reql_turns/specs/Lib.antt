pub mod Ears
pub mod Logins
pub mod Rolling
pub mod Running
