pub mod Endings
pub mod Holding
pub mod Listening
pub mod Running
