pub mod Places
pub mod Moves
pub mod Closing
pub mod Keeping
pub mod Rests
pub mod Quiet
pub mod There
