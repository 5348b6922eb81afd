pub mod Applied
pub mod Called
pub mod Kept
pub mod Lent
pub mod Ruled
