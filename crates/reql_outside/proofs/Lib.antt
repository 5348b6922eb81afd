pub mod Moving
pub mod Playing
pub mod Giving
