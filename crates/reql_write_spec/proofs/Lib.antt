pub mod Treated
pub mod Counted
pub mod Worked
pub mod Sends
