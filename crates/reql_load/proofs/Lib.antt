pub mod Places
pub mod Rounds
pub mod Short
pub mod Tied
pub mod Writing
