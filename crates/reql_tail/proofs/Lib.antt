mod Keeping
pub mod Sends
