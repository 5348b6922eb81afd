pub mod Kept
pub mod Apart
pub mod Quiet
pub mod There
