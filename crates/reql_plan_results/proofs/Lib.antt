pub mod Bytes
pub mod Hex
pub mod Puts
pub mod Sums
