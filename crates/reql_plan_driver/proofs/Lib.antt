pub mod Keeping
pub mod Being
pub mod Pacing
pub mod Leading
pub mod Same
